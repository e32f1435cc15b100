-- The tests of a router's record and of one that lists halves, as facts: a record has no fault exactly where it passes them all.
-- Assumes nothing.
use Prim.Native.Nat.{ℕ, suc, ◌+◌, ◌≤◌, ◌<◌}
use mathlib.Core.Bool.{Bool, true, false, cond, not, ◌&&◌, ◌||◌}
use mathlib.Core.List.{List, [], ◌∷◌}
use mathlib.Core.Logic.{◌↔◌, ◌≢◌}
use mathlib.Core.Path.{◌≡◌, refl}
use native.Mathlib.Omega.{arith}
use borrow.Author.Tests.{ltb-true, ltb-false, leb-false, eqb-false, lt-ltb, le-ltb, lt-leb, ne_eqb}
use lib.Dec.{eqb, leb, ltb}
use lib.ListN.{length}
use Rattle.network.specs.Lists.{any, member}
use Rattle.topology_types.specs.declared.Half.{Half}
use Rattle.topology_types.specs.Topology.{Contents}
use Rattle.stream_rules.specs.Halves.{StreamListing, halves}
use Rattle.stream_rules.specs.Reading.{router_fault_lem, repeated, crowded, halves_fault_lem}

-- a test that would refuse, in a chain that does not
pub passed : (b : Bool) (k x : ℕ) → cond b (suc k) x ≡ 0 → (b ≡ false) × (x ≡ 0)
passed true k x e = absurd (omega (arith, e))
passed false k x e = (refl, e)

pub record NewRouter (c : Contents) (id : ℕ) : Type 0 where
  pub unlisted : member id c.ids ≡ false
  pub room : length c.ids < 64

pub router_passes : (c : Contents) (id : ℕ) → (router_fault_lem c id ≡ 0) ↔ NewRouter c id
unfolding router_fault_lem
router_passes c id = (
  λ e.
      let (unlisted, e₄) = passed (member id c.ids) 2 _ e in
      let (few, none) = passed (leb 64 (length c.ids)) 3 _ e₄ in
      record { unlisted = unlisted; room = leb-false _ _ few },
  λ n. rw (n.unlisted, lt-leb 64 (length c.ids) n.room),
)

-- the halves `new` that a record lists, the first of which is h
pub record NewHalves (p : StreamListing) (h : Half) (new : List Half) : Type 0 where
  pub from_listed : h.from.0 < length p.contents.ids
  pub to_listed : h.to.0 < length p.contents.ids
  pub ends_differ : h.from.0 ≢ h.to.0
  pub cost_least : h.cost ≢ 0
  pub fresh : any (repeated p) new ≡ false
  pub room : length (halves p) + length new ≤ 512
  pub uncrowded : any (λ k. crowded p k.from.0) new ≡ false

pub both_listed : (a b : Bool) → not (a && b) ≡ false → (a ≡ true) × (b ≡ true)
both_listed true true e = (refl, refl)
both_listed true false e = let never : ◌≡◌ {A = ℕ} 0 1 = cc in absurd (omega arith)
both_listed false b e = let never : ◌≡◌ {A = ℕ} 0 1 = cc in absurd (omega arith)

pub halves_pass : (p : StreamListing) (h : Half) (new : List Half) → (halves_fault_lem p h new ≡ 0) ↔ NewHalves p h new
unfolding halves_fault_lem
halves_pass p h new = (
  λ e.
      let n = length p.contents.ids in
      let (listed, e₆) = passed (not (ltb h.from.0 n && ltb h.to.0 n)) 4 _ e in
      let (itself, e₇) = passed (eqb h.from.0 h.to.0) 5 _ e₆ in
      let (free, e₈) = passed (eqb h.cost 0) 6 _ e₇ in
      let (fresh, e₉) = passed (any (repeated p) new) 7 _ e₈ in
      let (few, e₁₀) = passed (ltb 512 (length (halves p) + length new)) 8 _ e₉ in
      let (uncrowded, none) = passed (any (λ k. crowded p k.from.0) new) 9 _ e₁₀ in
      let (from_in, to_in) = both_listed (ltb h.from.0 n) _ listed in
      record {
        from_listed = ltb-true _ _ from_in;
        to_listed = ltb-true _ _ to_in;
        ends_differ = eqb-false _ _ itself;
        cost_least = eqb-false _ _ free;
        fresh = fresh;
        room = ltb-false _ _ few;
        uncrowded = uncrowded;
      },
  λ w.
      rw (
        lt-ltb h.from.0 (length p.contents.ids) w.from_listed,
        lt-ltb h.to.0 (length p.contents.ids) w.to_listed,
        ne_eqb h.from.0 h.to.0 w.ends_differ,
        ne_eqb h.cost 0 w.cost_least,
        w.fresh,
        le-ltb 512 (length (halves p) + length new) w.room,
        w.uncrowded,
      ),
)

-- of the halves that a record lists none meets a test
neither : (a b : Bool) → (a || b) ≡ false → (a ≡ false) × (b ≡ false)
neither true b e = let never : ◌≡◌ {A = ℕ} 0 1 = cc in absurd (omega arith)
neither false b e = (refl, e)

module _ (test : Half → Bool) (h : Half) where
  pub one_fails : any test (h ∷ []) ≡ false → test h ≡ false
  one_fails e = (neither (test h) false e).0

  pub both_fail : (k : Half) → any test (h ∷ k ∷ []) ≡ false → (test h ≡ false) × (test k ≡ false)
  both_fail k e = let (first, rest) = neither (test h) (test k || false) e in (first, (neither (test k) false rest).0)
