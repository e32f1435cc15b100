-- What the tests of halves say where one refuses them, and where all pass, by what the tables have; and what is known of a listing. Nothing here speaks of
-- a stream.
-- Assumes nothing.
use Prim.Native.Nat.{ℕ, zero, suc, ◌+◌, ◌≤◌, ◌<◌}
use mathlib.Core.Bool.{Bool, true, false, cond, not, ◌&&◌, ◌||◌}
use mathlib.Core.List.{List, [], ◌∷◌}
use mathlib.Core.Logic.{◌≢◌, ∥∥₁_elim}
use mathlib.Core.Path.{◌≡◌, refl, sym, ap, ◌∙◌}
use native.Mathlib.Bridge.{le_prop}
use native.Mathlib.Omega.{arith}
use borrow.Author.Tests.{ltb-true, lt-ltb, le-ltb, leb-false, eqb-false}
use lib.Dec.{eqb, leb, ltb}
use lib.ListN.{length, get_or, set}
use lib.Seq.{get_or-set_other}
use Rattle.std.specs.Prelude.{Ok, Err}
use Rattle.topology_types.specs.declared.Fault.{Fault}
use Rattle.topology_types.specs.declared.Half.{Half}
use Rattle.topology_types.specs.declared.Topology.{Topology}
use Rattle.topology_types.specs.Outcome.{number_of}
use Rattle.topology_types.specs.Topology.{Contents}
use Rattle.topology_types.proofs.Outcome.{numbered}
use Rattle.stream_rules.specs.Record.{Record}
use Rattle.stream_rules.specs.Record as record_of
use Rattle.stream_rules.specs.Halves.{StreamListing, halves, opposite}
use Rattle.stream_rules.specs.Reading.{repeated, crowded, router_fault_lem, halves_fault_lem, fault, added}
use Rattle.stream_rules.specs.Inner.{Indexed, Stands}
use Rattle.stream_rules.proofs.NoFault.{passed, both_listed}
use Rattle.stream.specs.declared.tables.Tables.{Tables}
use Rattle.stream.specs.declared.unchecked.Listing.{Listing}
use Rattle.stream.specs.Inner.{Placed, Roomy, cost_in, ends_fault, listed_fault, crowd_fault, opposite_cost}
use Rattle.stream.specs.Listing.{Lists, Taken}
use Rattle.stream.proofs.Filled.{listed, few, indexed, room_router, room_link, roomy_first, roomy_second, roomy, room_half}

-- a record is refused, and the listing stays; or it is taken
module _ {r : Record} {l : Listing} where
  pub refused : (f : Fault) → ((p : StreamListing) → Lists p l → number_of f ≡ fault p r) → Taken r l l (Err f)
  refused f why = record { number = why; listed = λ p w. tt; stays = refl }

  pub taken : {l' : Listing} → ((p : StreamListing) → Lists p l → fault p r ≡ 0) → ((p : StreamListing) → Lists p l → Lists (added p r) l') →
      Taken r l l' (Ok tt)
  taken passes more = record { number = λ p w. sym (passes p w); listed = more; stays = tt }

-- what is held and the tables, as the code has them
pub stands_same : {p : StreamListing} {t t' : Topology} {kept kept' : Tables} {m : ℕ} → t ≡ t' → kept ≡ kept' →
    Stands p t' kept'.costs kept'.leaving m → Stands p t kept.costs kept.leaving m
stands_same e f w = rw (e, f) w

-- a test, and the tests after it where it passes
abbrev or_else : ℕ → ℕ → ℕ
or_else zero next = next
or_else (suc number) next = suc number

stops : (f : Fault) (a next : ℕ) → number_of f ≡ a → number_of f ≡ or_else a next
stops f zero next e = absurd (omega (arith, numbered f))
stops f (suc n) next e = e

goes_on : (a next : ℕ) → 0 ≡ a → or_else a next ≡ next
goes_on zero next e = refl
goes_on (suc n) next e = absurd (omega arith)

-- one half's tests, and those of a link, in turn
one_by_one : (a b c d e f : Bool) →
    cond a 5 (cond b 6 (cond c 7 (cond (d || false) 8 (cond e 9 (cond (f || false) 10 0)))))
    ≡ or_else (cond a 5 (cond b 6 (cond c 7 0))) (or_else (cond d 8 0) (or_else (cond e 9 0) (or_else (cond f 10 0) 0)))
one_by_one true b c d e f = refl
one_by_one false true c d e f = refl
one_by_one false false true d e f = refl
one_by_one false false false true e f = refl
one_by_one false false false false true f = refl
one_by_one false false false false false true = refl
one_by_one false false false false false false = refl

two_by_two : (a b c d d' e f f' : Bool) →
    cond a 5 (cond b 6 (cond c 7 (cond (d || (d' || false)) 8 (cond e 9 (cond (f || (f' || false)) 10 0)))))
    ≡ or_else (cond a 5 (cond b 6 (cond c 7 0)))
    (or_else (cond d 8 0) (or_else (cond d' 8 0) (or_else (cond e 9 0) (or_else (cond f 10 0) (cond f' 10 0)))))
two_by_two true b c d d' e f f' = refl
two_by_two false true c d d' e f f' = refl
two_by_two false false true d d' e f f' = refl
two_by_two false false false true d' e f f' = refl
two_by_two false false false false true e f f' = refl
two_by_two false false false false false true f f' = refl
two_by_two false false false false false false true f' = refl
two_by_two false false false false false false false true = refl
two_by_two false false false false false false false false = refl

-- the ends of a half that pass their tests
module _ (n : ℕ) (h : Half) (e : 0 ≡ ends_fault n h) where
  pub ends_pass : (h.from.0 < n) × (h.to.0 < n) × (h.from.0 ≢ h.to.0)
  ends_pass =
      let (listed, e₆) = passed (not (ltb h.from.0 n && ltb h.to.0 n)) 4 _ (sym e) in
      let (itself, e₇) = passed (eqb h.from.0 h.to.0) 5 _ e₆ in
      let (from_in, to_in) = both_listed (ltb h.from.0 n) _ listed in
      (ltb-true _ _ from_in, ltb-true _ _ to_in, eqb-false _ _ itself)

  pub placed : n ≤ 64 → Placed h
  placed few = record { from_inside = omega (arith, ends_pass.0); to_inside = omega (arith, ends_pass.1) }

-- a place that passes its test has room, and has it still with one half more that leaves another place
pub room : (leaving : List ℕ) (u : ℕ) → 0 ≡ crowd_fault leaving u → get_or leaving u 0 < 16
room leaving u e = leb-false _ _ (passed (leb 16 (get_or leaving u 0)) 9 0 (sym e)).0

pub room_still : (leaving : List ℕ) (u v : ℕ) → v ≢ u → 0 ≡ crowd_fault leaving v → get_or (set leaving u (get_or leaving u 0 + 1)) v 0 < 16
room_still leaving u v apart e = rw (get_or-set_other leaving u v (get_or leaving u 0 + 1) 0 apart) (room leaving v e)

other_way : (b : Bool) → cond {A = ℕ} b 0 8 ≡ cond (not b) 8 0
other_way true = refl
other_way false = refl

pub back_placed : (h : Half) → Placed h → Placed (opposite h)
unfolding opposite
back_placed h inside = record { from_inside = inside.to_inside; to_inside = inside.from_inside }

-- the halves that are listed: both, or the first
abbrev pub new_ones : Half → Bool → List Half
new_ones h both = cond both (h ∷ opposite h ∷ []) (h ∷ [])

-- what the code asks of both, or of the first alone
abbrev pub if_both : Bool → ℕ → ℕ
if_both both number = cond both number 0

-- how many they are
abbrev pub count_of : Bool → ℕ
count_of both = cond both 2 1

module _ {p : StreamListing} {n m : ℕ} {costs leaving : List ℕ} (i : Indexed p n m costs leaving) (few : n ≤ 64) (h : Half) (both : Bool) where
  new_test : (k : Half) → Placed k → listed_fault costs k ≡ cond (repeated p k) 8 0
  new_test k inside = other_way (eqb (cost_in costs k) 0) ∙ ap (λ (b : Bool). cond {A = ℕ} b 8 0) (i.listed k inside.from_inside inside.to_inside)

  room_test : (u : ℕ) → u < 64 → crowd_fault leaving u ≡ cond (crowded p u) 10 0
  unfolding crowded
  room_test u inside = ap (λ (x : ℕ). cond {A = ℕ} (leb 16 x) 10 0) (i.out u inside)

  tests : halves_fault_lem p h (new_ones h both) ≡
      or_else (ends_fault n h)
      (or_else (cond (repeated p h) 8 0)
      (or_else (if_both both (cond (repeated p (opposite h)) 8 0))
      (or_else (cond (ltb 512 (m + count_of both)) 9 0)
      (or_else (cond (crowded p h.from.0) 10 0) (if_both both (cond (crowded p h.to.0) 10 0))))))
  tests = go both
    where
      go : (both : Bool) → halves_fault_lem p h (new_ones h both) ≡
          or_else (ends_fault n h)
          (or_else (cond (repeated p h) 8 0)
          (or_else (if_both both (cond (repeated p (opposite h)) 8 0))
          (or_else (cond (ltb 512 (m + count_of both)) 9 0)
          (or_else (cond (crowded p h.from.0) 10 0) (if_both both (cond (crowded p h.to.0) 10 0))))))
      go true =
          unfold halves_fault_lem in
          unfold opposite in
          rw (i.routers, i.many)
          (two_by_two (not (ltb h.from.0 (length p.contents.ids) && ltb h.to.0 (length p.contents.ids))) (eqb h.from.0 h.to.0) (eqb h.cost 0)
          (repeated p h) (repeated p (opposite h)) (ltb 512 (length (halves p) + 2)) (crowded p h.from.0) (crowded p h.to.0))
      go false =
          unfold halves_fault_lem in
          rw (i.routers, i.many)
          (one_by_one (not (ltb h.from.0 (length p.contents.ids) && ltb h.to.0 (length p.contents.ids))) (eqb h.from.0 h.to.0) (eqb h.cost 0)
          (repeated p h) (ltb 512 (length (halves p) + 1)) (crowded p h.from.0))

  pub at_ends : (f : Fault) → number_of f ≡ ends_fault n h → number_of f ≡ halves_fault_lem p h (new_ones h both)
  at_ends f e = stops f _ _ e ∙ sym tests

  -- the ends have passed
  module _ (ends : 0 ≡ ends_fault n h) where
    here : Placed h
    here = placed n h ends few

    from_8 : halves_fault_lem p h (new_ones h both) ≡
        or_else (listed_fault costs h)
        (or_else (if_both both (listed_fault costs (opposite h)))
        (or_else (cond (ltb 512 (m + count_of both)) 9 0)
        (or_else (crowd_fault leaving h.from.0) (if_both both (crowd_fault leaving h.to.0)))))
    from_8 =
        tests ∙ goes_on (ends_fault n h) _ ends
        ∙ rw (
          new_test h here,
          new_test (opposite h) (back_placed h here),
          room_test h.from.0 here.from_inside,
          room_test h.to.0 here.to_inside,
        )

    pub at_listed : (f : Fault) → number_of f ≡ listed_fault costs h → number_of f ≡ halves_fault_lem p h (new_ones h both)
    at_listed f e = stops f _ _ e ∙ sym from_8

    -- the half is new
    module _ (new : 0 ≡ listed_fault costs h) where
      from_back : halves_fault_lem p h (new_ones h both) ≡
          or_else (if_both both (listed_fault costs (opposite h)))
          (or_else (cond (ltb 512 (m + count_of both)) 9 0)
          (or_else (crowd_fault leaving h.from.0) (if_both both (crowd_fault leaving h.to.0))))
      from_back = from_8 ∙ goes_on (listed_fault costs h) _ new

      pub at_back : (f : Fault) → number_of f ≡ if_both both (listed_fault costs (opposite h)) → number_of f ≡ halves_fault_lem p h (new_ones h both)
      at_back f e = stops f _ _ e ∙ sym from_back

      -- and so is its opposite, where that is asked
      module _ (back : 0 ≡ if_both both (listed_fault costs (opposite h))) where
        from_9 : halves_fault_lem p h (new_ones h both) ≡
            or_else (cond (ltb 512 (m + count_of both)) 9 0) (or_else (crowd_fault leaving h.from.0) (if_both both (crowd_fault leaving h.to.0)))
        from_9 = from_back ∙ goes_on (if_both both (listed_fault costs (opposite h))) _ back

        pub at_many : {adds : ℕ} → adds ≡ count_of both → 512 < m + adds → 9 ≡ halves_fault_lem p h (new_ones h both)
        at_many is many = sym (from_9 ∙ rw (lt-ltb 512 (m + count_of both) (rw is at many)))

        module _ {adds : ℕ} (is : adds ≡ count_of both) (fit : m + adds ≤ 512) where
          from_10 : halves_fault_lem p h (new_ones h both) ≡ or_else (crowd_fault leaving h.from.0) (if_both both (crowd_fault leaving h.to.0))
          from_10 = from_9 ∙ rw (le-ltb 512 (m + count_of both) (rw is at fit))

          pub at_crowd : (f : Fault) → number_of f ≡ crowd_fault leaving h.from.0 → number_of f ≡ halves_fault_lem p h (new_ones h both)
          at_crowd f e = stops f _ _ e ∙ sym from_10

          -- there is room at the first place
          module _ (room : 0 ≡ crowd_fault leaving h.from.0) where
            from_last : halves_fault_lem p h (new_ones h both) ≡ if_both both (crowd_fault leaving h.to.0)
            from_last = from_10 ∙ goes_on (crowd_fault leaving h.from.0) _ room

            pub at_last : (a : ℕ) → a ≡ if_both both (crowd_fault leaving h.to.0) → a ≡ halves_fault_lem p h (new_ones h both)
            at_last a e = e ∙ sym from_last

-- the last test, of both or of the first alone
pub with_both : {both : Bool} {a number : ℕ} → both ≡ true → a ≡ number → a ≡ if_both both number
with_both is e = rw is e

pub with_one : {both : Bool} (number : ℕ) → both ≡ false → 0 ≡ if_both both number
with_one number is = rw is

-- what is known of a listing, and of one that a record passes the tests of
module _ (l : Listing) where
  pub router_passes : (id : ℕ) (ids : List ℕ) → ((p : StreamListing) → Lists p l → ids ≡ p.contents.ids) →
      ((c : Contents) → c.ids ≡ ids → 0 ≡ router_fault_lem c id) → (p : StreamListing) → Lists p l → fault p (record_of.Router id) ≡ 0
  unfolding fault
  router_passes id ids listed passed p w = sym (passed p.contents (sym (listed p w)))

  pub half_passes : (h : Half) →
      ((p : StreamListing) → Indexed p l.topology.routers l.halves l.tables.costs l.tables.leaving → 0 ≡ halves_fault_lem p h (h ∷ [])) →
      (p : StreamListing) → Lists p l → fault p (record_of.Half h) ≡ 0
  unfolding fault
  half_passes h passed p w = sym (passed p (indexed w))

  pub link_passes : (h : Half) →
      ((p : StreamListing) → Indexed p l.topology.routers l.halves l.tables.costs l.tables.leaving → 0 ≡ halves_fault_lem p h (h ∷ opposite h ∷ [])) →
      (p : StreamListing) → Lists p l → fault p (record_of.Link h) ≡ 0
  unfolding fault
  link_passes h passed p w = sym (passed p (indexed w))

  known : (a b : ℕ) → ((p : StreamListing) → Lists p l → a < b) → a < b
  known a b f = ∥∥₁_elim l.stands le_prop (λ (p, w). f p w)

  pub few_routers : l.topology.routers ≤ 64
  few_routers = ∥∥₁_elim l.stands le_prop (λ (p, w). (listed w).counted.routers_fit)

  pub few_halves : l.halves ≤ 512
  few_halves = ∥∥₁_elim l.stands le_prop (λ (p, w). few w)

  pub router_room : (id : ℕ) → ((p : StreamListing) → Lists p l → fault p (record_of.Router id) ≡ 0) → l.topology.routers < 64
  router_room id passes = known _ _ (λ p w. room_router w id (passes p w))

  module _ (h : Half) (passes : (p : StreamListing) → Lists p l → fault p (record_of.Half h) ≡ 0) where
    pub half_roomy : Roomy l.tables.leaving h
    half_roomy =
        record {
          placed =
              record {
                from_inside = known _ _ (λ p w. (roomy w h (passes p w)).placed.from_inside);
                to_inside = known _ _ (λ p w. (roomy w h (passes p w)).placed.to_inside);
              };
          room = known _ _ (λ p w. (roomy w h (passes p w)).room);
        }

    pub half_room : opposite_cost l.tables.costs h ≢ 0 → l.topology.links < 256
    half_room some-cost = known _ _ (λ p w. room_half w h (passes p w) some-cost)

  module _ (h : Half) (passes : (p : StreamListing) → Lists p l → fault p (record_of.Link h) ≡ 0) where
    pub link_room : l.topology.links < 256
    link_room = known _ _ (λ p w. room_link w h (passes p w))

    pub first_roomy : Roomy l.tables.leaving h
    first_roomy =
        record {
          placed =
              record {
                from_inside = known _ _ (λ p w. (roomy_first w h (passes p w)).placed.from_inside);
                to_inside = known _ _ (λ p w. (roomy_first w h (passes p w)).placed.to_inside);
              };
          room = known _ _ (λ p w. (roomy_first w h (passes p w)).room);
        }

    pub second_roomy : Roomy (set l.tables.leaving h.from.0 (get_or l.tables.leaving h.from.0 0 + 1)) (opposite h)
    second_roomy =
        record {
          placed = back_placed h first_roomy.placed;
          room = known _ _ (λ p w. (roomy_second w h (passes p w)).room);
        }
