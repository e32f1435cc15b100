-- Each field is put behind those before it.
-- Assumes nothing.
use Rattle.std.proofs.Common.{arith}
use Rattle.text.proofs.Stores.{joined}
use Rattle.text.proofs.Texts.{small_length}
use Rattle.listing_rules.specs.Inner.{front_text}
use Rattle.listing_rules.proofs.Fields.{field_length, byte_length}
use Rattle.report.proofs.printing.put_front.Goals as goal

pub put_place-requires : goal.put_place-requires
put_place-requires c = let s = c.requires.0 in (s.router, omega (arith, small_length _ s.destination))

pub put_rank-requires : goal.put_rank-requires
put_rank-requires c = let s = c.requires.0 in omega (arith, small_length _ s.destination, field_length _ s.router)

pub put_rank-requires-2 : goal.put_rank-requires-2
put_rank-requires-2 c =
    let s = c.requires.0 in
    omega (arith, small_length _ s.destination, field_length _ s.router, byte_length _ s.rank, byte_length _ s.hops)

pub returns : goal.returns
unfolding front_text
returns c = joined c.put_small.ensures (joined c.put_place.ensures (joined c.put_rank.ensures c.put_rank-2.ensures))
