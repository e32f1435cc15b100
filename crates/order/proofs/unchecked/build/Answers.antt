-- `order::unchecked::build` meets its contract, for every topology that is lent so.
-- Assumes nothing.
use Rattle.std.proofs.Common.{ℕ, List, ◌≡◌, ◌≤◌, ◌++◌, length, take, drop, sym, arith}
use lib.ListN.{replicate}
use lib.Seq.{length-take-le}
use borrow.Author.Tests.{leb-true, leb-false}
use Rattle.order_standings.proofs.Parts.{apart_part, inverse_whole}
use Rattle.order.proofs.Turn.{first_room}
use Rattle.order.proofs.Building.{ties_small, first_turn, place, has_room, again, cleared_long}
use Rattle.order.proofs.Lending.{routers_are, own_few, own_ties, small, apart, d_in, own_every, own_start, own_hands, own_counts, own_counted, own_keys, own_key, own_more, picked, done, stuck}
use Rattle.order.proofs.unchecked.build.Goals as goal

pub lower_ids-lower-requires : goal.lower_ids-lower-requires
lower_ids-lower-requires c = let (t, l) = c.requires.0 in own_few l

pub slice_bounds-lower-end : goal.slice_bounds-lower-end
slice_bounds-lower-end c = let (t, l) = c.requires.0 in omega (arith, own_few l, c.lower_ids-lower.ensures.long)

pub slice_bounds-places_of-end : goal.slice_bounds-places_of-end
slice_bounds-places_of-end c =
    let (t, l) = c.requires.0 in sym (length-take-le _ _ (omega (arith, own_few l, c.lower_ids-lower.ensures.long)))

pub slice_bounds-keys-end : goal.slice_bounds-keys-end
slice_bounds-keys-end c = let (t, l) = c.requires.0 in own_keys l (c.loop-rank.invariant.building t l)

pub slice_bounds-highest-end : goal.slice_bounds-highest-end
slice_bounds-highest-end c = let (t, l) = c.requires.0 in sym (length-take-le _ _ (own_keys l (c.loop-rank.invariant.building t l)))

pub places_of-places-requires : goal.places_of-places-requires
places_of-places-requires c =
    let (t, l) = c.requires.0 in
    apart_part _ _ (omega (arith, c.lower_ids-lower.ensures.long, own_few l)) (apart l c.lower_ids-lower.ensures)

pub standings-keys-requires : goal.standings-keys-requires
standings-keys-requires c = let (t, l) = c.requires.0 in (own_every l, small l c.lower_ids-lower.ensures)

pub at-requires : goal.at-requires
at-requires c = let (t, l) = c.requires.0 in rw c.index-d.ensures (own_hands l l.laid.place)

pub count_in-requires : goal.count_in-requires
count_in-requires c =
    let (t, l) = c.requires.0 in
    rw c.index-d.ensures
    (own_counts l l.laid.place (rw c.index-d.ensures at c.at.ensures) _
    (first_room l.laid (ties_small l.laid (own_ties l c.lower_ids-lower.ensures)) (own_start l c.standings-keys.ensures)))

pub bounds-out-0 : goal.bounds-out-0
bounds-out-0 c = let (t, l) = c.requires.0 in omega (arith, d_in l, c.requires.1)

-- the slice as it is cleared
are : (n : ℕ) (new old : List ℕ) → new ≡ replicate (length (take n old)) 255 → n ≤ length old → new ++ drop n old ≡ replicate n 255 ++ drop n old
are n new old e h = rw (e, length-take-le n old h)

pub loop-rank-init : goal.loop-rank-init
loop-rank-init c =
    let enough = c.requires.1 in
    let n = length c.args.ids.now in
    let old = c.args.out.now in
    let first = c.clear.new.out ++ drop n old in
    let (s, g) = c.requires.0 in
    record {
      lower = c.lower_ids-lower.result;
      inverse = inverse_whole _ _ (omega (arith, c.lower_ids-lower.ensures.long, own_few g)) c.places_of-places.ensures;
      building = λ t l.
          first_turn first l.laid (own_ties l c.lower_ids-lower.ensures)
          (omega (arith, routers_are l, cleared_long n first old (are _ _ _ c.clear.ensures enough) enough)) (own_start l c.standings-keys.ensures)
          (own_counted l l.laid.place (rw c.index-d.ensures at c.at.ensures) (rw c.index-d.ensures at c.count_in.ensures));
    }

pub highest-best-requires : goal.highest-best-requires
highest-best-requires c = let (t, l) = c.requires.0 in own_key l (c.loop-rank.invariant.building t l)

-- when all are placed, or none that is left is a candidate
pub returns-then-not-is_candidate : goal.returns-then-not-is_candidate
returns-then-not-is_candidate c t l =
    stuck l c.args.out.now (are _ _ _ c.clear.ensures c.requires.1) (c.loop-rank.invariant.building t l) (omega arith) c.loop-rank-test.true c.highest-best.ensures
    (omega (arith, leb-false, sym c.if-not-is_candidate.ensures))

pub returns : goal.returns
returns c t l = done l c.args.out.now (are _ _ _ c.clear.ensures c.requires.1) (c.loop-rank.invariant.building t l) (omega arith) (omega arith)

-- the highest is a candidate, and so it is selected
pub at-requires-in-loop-rank : goal.at-requires-in-loop-rank
at-requires-in-loop-rank c =
    let (t, l) = c.requires.0 in
    let w = c.loop-rank.invariant in
    let b = w.building t l in
    let more = c.loop-rank-test.true in
    let e = picked l b more c.highest-best.ensures (omega (arith, leb-true, sym c.if-not-is_candidate.ensures)) w.inverse in
    own_hands l (place b (own_more l b more) e)

pub count_in-requires-in-loop-rank : goal.count_in-requires-in-loop-rank
count_in-requires-in-loop-rank c =
    let (t, l) = c.requires.0 in
    let w = c.loop-rank.invariant in
    let b = w.building t l in
    let more = c.loop-rank-test.true in
    let e = picked l b more c.highest-best.ensures (omega (arith, leb-true, sym c.if-not-is_candidate.ensures)) w.inverse in
    own_counts l (place b (own_more l b more) e) c.at-in-loop-rank.ensures _ (has_room b (own_more l b more) e)

pub loop-rank-preserved : goal.loop-rank-preserved
loop-rank-preserved c =
    let w = c.loop-rank.invariant in
    let more = c.loop-rank-test.true in
    let high : 17472 ≤ c.highest-best.result = omega (arith, leb-true, sym c.if-not-is_candidate.ensures) in
    record {
      lower = w.lower;
      inverse = w.inverse;
      building = λ t l.
          let b = w.building t l in
          let e = picked l b more c.highest-best.ensures high w.inverse in
          again b (own_more l b more) e (own_counted l (place b (own_more l b more) e) c.at-in-loop-rank.ensures c.count_in-in-loop-rank.ensures);
    }
