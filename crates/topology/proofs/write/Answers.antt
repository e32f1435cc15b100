-- A sound topology has its counts within the limits, so that its length is known; the stream is put at the start of the buffer.
-- Assumes nothing.
use Rattle.std.proofs.Common.{ℕ, ◌+◌, ◌*◌, ◌≡◌, ◌≤◌, true, sym, ◌∙◌, length, take, zero-add, arith}
use borrow.Author.Tests.{lt-ltb, le-ltb}
use Rattle.topology_types.specs.declared.Topology.{Topology}
use Rattle.topology_types.specs.Outcome.{given, turned_away}
use Rattle.topology_types.specs.Topology.{contents}
use Rattle.topology_sound.specs.Sound.{sound}
use Rattle.topology_sound.specs.Theorems.{Sound}
use Rattle.topology_sound.proofs.Sound.{sound_exact}
use Rattle.text.proofs.Stores.{put_start}
use Rattle.topology.specs.Written.{link_bytes, joined_over, written, writing}
use Rattle.topology.proofs.WrittenLength.{stream_length}
use Rattle.topology.proofs.write.Goals as goal

facts : (t : Topology) → true ≡ sound t → Sound t
facts t e = (sound_exact t).0 (rw (← e) tt)

pub returns-then-not-is_sound : goal.returns-then-not-is_sound
unfolding writing turned_away
returns-then-not-is_sound c = rw (c.at.ensures, ← c.if-not-is_sound.ensures)

pub shared_ref_as_front-ids : goal.shared_ref_as_front-ids
shared_ref_as_front-ids c = (facts c.args.t c.if-not-is_sound.ensures).routers_most

pub shared_ref_as_front-links : goal.shared_ref_as_front-links
shared_ref_as_front-links c = (facts c.args.t c.if-not-is_sound.ensures).links_most

-- what is written is as long as was counted
needed : (t : Topology) (n : ℕ) → n ≡ 2 + 5 * length (take t.routers t.id) + length (joined_over link_bytes (take t.links t.link)) + 1 →
    length (written t) ≡ n
unfolding written contents
needed t n e = stream_length t.limit (take t.routers t.id) (take t.links t.link) ∙ sym e

pub returns-then-out-needed : goal.returns-then-out-needed
unfolding writing given turned_away
returns-then-out-needed c =
    let n = needed c.args.t c.length_of-needed.result c.length_of-needed.ensures in
    rw (c.at-then-out-needed.ensures, ← c.if-not-is_sound.ensures, n, lt-ltb _ _ c.if-out-needed.true)

pub put_stream-requires : goal.put_stream-requires
unfolding written contents
put_stream-requires c = omega (arith, needed c.args.t c.length_of-needed.result c.length_of-needed.ensures)

pub returns : goal.returns
unfolding writing given written contents
returns c =
    let long : length (written c.args.t) ≤ length c.args.out.now =
    omega (arith, needed c.args.t c.length_of-needed.result c.length_of-needed.ensures) in
    rw (← c.if-not-is_sound.ensures, le-ltb _ _ long, c.put_stream.ensures.after, put_start c.put_stream.ensures long, zero-add)
