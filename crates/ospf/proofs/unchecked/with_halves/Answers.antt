-- A half more is taken in turn.
-- Assumes nothing.
use Rattle.std.specs.Iterator.Adapters.{enumerate_source, enumerate_count}
use Rattle.std.proofs.Common.{inl, ◌≡◌, ℕ, ◌<◌, ◌+◌, List, [], ◌∷◌, length, get_or, drop, add-one, drop-cons, Ok, Err, refl, sym, ap, ◌∙◌, rules, arith}
use Rattle.topology_types.specs.declared.Fault.{Fault}
use Rattle.topology_types.specs.declared.Half.{Half}
use Rattle.ospf_lsas.specs.Opened.{lsas_left}
use Rattle.ospf.specs.Import.{halves_at, at_last}
use Rattle.ospf.proofs.Going.{Halving, halving_first, within_first, place_fits, few_left, ids_fit, half_off, half_on, halving_end}
use Rattle.ospf.proofs.unchecked.with_halves.Goals as goal

-- the LSAs are gone through, from place 0
module _ (c : goal.After-into_iter-place-iterator) where
  again : lsas_left (enumerate_source c.into_iter-place-iterator.result) ≡ lsas_left c.args.lsas
  again = rw c.into_iter-place-iterator.ensures.into_iter_gives (ap lsas_left c.enumerate-place-items.ensures.source)

  first_place : enumerate_count c.into_iter-place-iterator.result ≡ 0
  first_place = rw c.into_iter-place-iterator.ensures.into_iter_gives c.enumerate-place-items.ensures.count

  halving : Halving (lsas_left c.args.lsas) c.args.listing 0 (lsas_left c.args.lsas)
  halving = halving_first c.requires

pub loop-place-init-derived : goal.loop-place-init-derived
loop-place-init-derived c =
    ((tt, tt, inl (omega (arith, first_place c, ap length (again c), few_left (halving c)))), tt)

pub loop-place-init : goal.loop-place-init
loop-place-init c = let (can, finite) = loop-place-init-derived c in (can, finite, rw (again c, first_place c) (halving c))

pub overflow_cast-place : goal.overflow_cast-place
overflow_cast-place c =
    let (next, at, one, more) = c.in-Some.ensures.steps in
    omega (arith, at, place_fits (rw next at c.loop-place.invariant.2))

pub given-given-requires : goal.given-given-requires
given-given-requires c =
    let w = c.loop-place.invariant.2 in
    rw (c.ids.ensures w.listing w.lists) (ids_fit w)

pub loop-half-init : goal.loop-half-init
unfolding halves_at
loop-half-init c =
    let (next, at, one, more) = c.in-Some.ensures.steps in
    let w = rw (next, sym at) at c.loop-place.invariant.2 in
    within_first w _ (c.as_slice-half-items.ensures ∙ c.given-given.ensures.halves ∙ rw (c.ids.ensures w.listing w.lists) refl)

-- the half at an index, and those behind it
halves_split : (hs : List Half) (i : ℕ) → i < length hs → drop i hs ≡ get_or hs i (record { from = record { 0 = 0 }; to = record { 0 = 0 }; cost = 0 }) ∷ drop (i + 1) hs
halves_split hs i h = rw (add-one, drop-cons hs i (record { from = record { 0 = 0 }; to = record { 0 = 0 }; cost = 0 })) refl

pub returns-in_err-map_err : goal.returns-in_err-map_err
returns-in_err-map_err c =
    let v = rw (halves_split c.as_slice-half-items.result.now c.loop-half.half-index c.loop-half-test.true) at c.loop-half.invariant in
    let e : c.from_residual.result ≡ Err c.in_err-map_err.field-0.0 = search rules in
    let (f, was, is) : (f : Fault) × (c.take_half.result ≡ Err f) × (c.in_err-map_err.field-0.0 ≡ record { fault = f; at = c.in-Some.lsa.at }) = search rules in
    rw (e, is) (half_off v c.take_half.ensures f was)

pub loop-half-preserved : goal.loop-half-preserved
loop-half-preserved c =
    let v = rw (halves_split c.as_slice-half-items.result.now c.loop-half.half-index c.loop-half-test.true) at c.loop-half.invariant in
    let passed : c.take_half.result ≡ Ok tt = search rules in
    half_on v c.take_half.ensures passed

pub returns : goal.returns
unfolding at_last
returns c =
    let none : lsas_left (enumerate_source c.loop-place.place-iterator) ≡ [] = search rules in
    let w = rw none at c.loop-place.invariant.2 in
    c.ended.ensures w.listing w.lists ∙ halving_end w
