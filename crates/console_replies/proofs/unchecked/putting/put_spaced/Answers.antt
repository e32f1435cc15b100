-- The first number is put, and the others behind a space each.
-- Assumes nothing.
use Rattle.std.proofs.Common.{◌≡◌, ℕ, ◌≤◌, List, [], ◌∷◌, ◌++◌, map, ap, ◌∙◌, arith, get_or, take, drop, length, length-drop, ◌-◌}
use Rattle.std.proofs.lemmas.List.{take_more}
use Rattle.std.proofs.Math.Seq.{take_all}
use Rattle.topology.specs.Written.{joined_over}
use Rattle.text.specs.Numbers.{number_text}
use Rattle.text.proofs.Scan.{to_end}
use Rattle.text.proofs.Stores.{joined}
use Rattle.text.proofs.Texts.{number_length}
use Rattle.listing_rules.specs.Listing.{spaced}
use Rattle.listing_rules.specs.Inner.{spaced_number, fields_text}
use Rattle.listing_rules.proofs.Fields.{spaced_first, joined_fields}
use Rattle.listing_rules.proofs.InTurn.{none, more}
use Rattle.console_replies.proofs.unchecked.putting.put_spaced.Goals as goal

-- one number or more: the first, and the others behind a space each
by_others : (ns : List ℕ) → 1 ≤ length ns → spaced (map number_text ns) ≡ number_text (get_or ns 0 0) ++ joined_over spaced_number (drop 1 ns)
unfolding fields_text
by_others [] h = absurd (omega arith)
by_others (n ∷ ns) h = spaced_first (number_text n) (map number_text ns) ∙ ap (λ s. number_text n ++ s) (joined_fields ns)

pub loop-number-init : goal.loop-number-init
loop-number-init c = none spaced_number 21 _

-- the others are all but the first
others : (ns : List ℕ) → length (take (length ns - 1) (drop 1 ns)) ≡ length ns - 1
others ns = omega (arith, ap length (to_end ns 1), length-drop 1 ns)

pub put_number-requires : goal.put_number-requires
put_number-requires c = omega (arith, number_length (get_or c.args.numbers.now 0 0), c.requires.0, c.requires.1)

pub put-requires : goal.put-requires
put-requires c =
    let at = c.loop-number.invariant in
    let first = c.put_number.ensures in
    omega (arith, at.ends, at.puts.long, first.long, first.put.after, number_length (get_or c.args.numbers.now 0 0), others c.args.numbers.now, c.loop-number-test.true, c.requires.1)

pub put_number-requires-in-loop-number : goal.put_number-requires-in-loop-number
put_number-requires-in-loop-number c =
    let at = c.loop-number.invariant in
    let first = c.put_number.ensures in
    let space = c.put.ensures in
    let ns = c.args.numbers.now in
    omega (arith, at.ends, at.puts.long, first.long, first.put.after, space.long, space.put.after, number_length (get_or ns 0 0), others ns, c.loop-number-test.true, c.requires.1, number_length (get_or (take (length ns - 1) (drop 1 ns)) c.loop-number.number-index 0))

pub loop-number-preserved : goal.loop-number-preserved
loop-number-preserved c =
    let ns = take (length c.args.numbers.now - 1) (drop 1 c.args.numbers.now) in
    let at = c.loop-number in
    more spaced_number 21 at.invariant (get_or ns at.number-index 0) (omega (arith, number_length (get_or ns at.number-index 0)))
    (joined c.put.ensures c.put_number-in-loop-number.ensures) (take_more ns at.number-index 0 c.loop-number-test.true)

pub returns : goal.returns
returns c =
    let ns = c.args.numbers.now in
    let at = c.loop-number in
    let all = rw (take_all at.number-index (take (length ns - 1) (drop 1 ns)) c.loop-number-test.false, to_end ns 1) at at.invariant.puts in
    rw (by_others ns c.requires.0) (joined c.put_number.ensures all)
