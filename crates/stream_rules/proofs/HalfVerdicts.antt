-- What each number of a record of halves says: whether a half is listed, how many are, and how many leave a place, as links and lone halves tell.
-- Assumes nothing.
use Prim.Native.Nat.{ℕ, ◌+◌, ◌≤◌, ◌<◌}
use mathlib.Core.Bool.{Bool, true, false, cond, ◌||◌}
use mathlib.Core.List.Memᴰ
use mathlib.Core.List.{List, [], ◌∷◌, Memᴰ}
use mathlib.Core.Logic.{◌↔◌, ◌⊎◌, inl, inr, ⊎_elim}
use mathlib.Core.Path.{◌≡◌, refl, sym, ap, ◌∙◌, subst}
use native.Mathlib.Omega.{arith}
use lib.Dec.{T, eqb, ltb, leb}
use lib.ListN.{length}
use Rattle.network.specs.Lists.{any, keep}
use Rattle.network.proofs.Lists.{any_some, some_any}
use Rattle.topology_types.specs.declared.Half.{Half}
use Rattle.topology_types.specs.declared.Link.{Link}
use Rattle.stream_rules.specs.Halves.{StreamListing, first_half, second_half, link_halves, halves, same_half, leaves, opposite}
use Rattle.stream_rules.specs.Reading.{repeated, crowded, halves_fault_lem, fault}
use Rattle.stream_rules.specs.Theorems.{HalfListed, halves_listed, halves_leaving, BothListed, Differing, Costing, HalfFaults, LinkFaults}
use Rattle.stream_rules.proofs.Faults.{from_6, from_7, from_8, from_9, from_10}
use Rattle.stream_rules.proofs.Halves.{length_total, length_keep, halves_total}
use Rattle.stream_rules.specs.Inner.{one_if, total}
use Rattle.stream_rules.proofs.Opposite.{same_places}
use Rattle.stream_rules.proofs.GoodHalves.{links_many, halves-in}
use Rattle.stream_rules.proofs.Tables.{same-half}
use Rattle.stream_rules.proofs.Decides.{Decides, holds, fails, decide, negated, both, either, same, less, most, Later, later, found, past, Left, next, says, ends}

-- the halves of links, and where one of them comes from
link_half : (ls : List Link) {k : Half} → Memᴰ k (link_halves ls) → (l : Link) × Memᴰ l ls × ((k ≡ first_half l) ⊎ (k ≡ second_half l))
unfolding link_halves
link_half [] m = absurd (Memᴰ.not-nil m)
link_half (l ∷ ls) (Memᴰ.head e) = (l, Memᴰ.head refl, inl e)
link_half (l ∷ ls) (Memᴰ.tail (Memᴰ.head e)) = (l, Memᴰ.head refl, inr e)
link_half (l ∷ ls) (Memᴰ.tail (Memᴰ.tail m)) = let (k, n, e) = link_half ls m in (k, Memᴰ.tail n, e)

-- how many halves there are, and how many leave a place
halves_count : (p : StreamListing) → length (halves p) ≡ halves_listed p
halves_count p =
    omega (
      arith,
      length_total (halves p),
      halves_total (λ k. 1) p,
      links_many p.contents.links,
      length_total p.lone,
    )

links_leaving : (u : ℕ) (ls : List Link) →
    total (one_if (leaves u)) (link_halves ls) ≡ length (keep (λ l. eqb l.first.0 u) ls) + length (keep (λ l. eqb l.second.0 u) ls)
unfolding total link_halves one_if leaves first_half second_half
links_leaving u [] = refl
links_leaving u (l ∷ ls) = go (eqb l.first.0 u) (eqb l.second.0 u) (links_leaving u ls)
  where
    firsts : List Link
    firsts = keep (λ l. eqb l.first.0 u) ls

    seconds : List Link
    seconds = keep (λ l. eqb l.second.0 u) ls

    go : (a b : Bool) → total (one_if (leaves u)) (link_halves ls) ≡ length firsts + length seconds →
        cond a 1 0 + (cond b 1 0 + total (one_if (leaves u)) (link_halves ls)) ≡ length (cond a (l ∷ firsts) firsts) + length (cond b (l ∷ seconds) seconds)
    go true true e = omega arith
    go true false e = omega arith
    go false true e = omega arith
    go false false e = omega arith

leaving_count : (p : StreamListing) (u : ℕ) → length (keep (leaves u) (halves p)) ≡ halves_leaving p u
unfolding leaves
leaving_count p u =
    omega (
      arith,
      length_keep (leaves u) (halves p),
      halves_total (one_if (leaves u)) p,
      links_leaving u p.contents.links,
      length_keep (leaves u) p.lone,
    )

module _ (p : StreamListing) where
  -- whether a half is listed
  known : (h : Half) → Decides (HalfListed p h.from.0 h.to.0) (HalfListed p h.from.0 h.to.0 → ⊥) (repeated p h)
  unfolding repeated halves first_half second_half
  known h = decide (any (same_half h) (halves p)) there (λ o is. o (back is)) (λ o is. o is)
    where
      there : T (any (same_half h) (halves p)) → HalfListed p h.from.0 h.to.0
      there t =
          let (k, m, same) = any_some (same_half h) (halves p) t in
          let (f, g) = same_places h k same in
          ⊎_elim
          (λ m'.
          let (l, n, e) = link_half p.contents.links m' in
          ⊎_elim (λ is. HalfListed.going l n (sym (ap (λ (x : Half). x.from.0) is) ∙ sym f) (sym (ap (λ (x : Half). x.to.0) is) ∙ sym g))
          (λ is. HalfListed.coming l n (sym (ap (λ (x : Half). x.from.0) is) ∙ sym f) (sym (ap (λ (x : Half). x.to.0) is) ∙ sym g)) e)
          (λ m'. HalfListed.alone k m' (sym f) (sym g)) (Memᴰ.append_cases (link_halves p.contents.links) m)

      back : HalfListed p h.from.0 h.to.0 → T (any (same_half h) (halves p))
      back (HalfListed.going l m e f) =
          some_any (same_half h) (halves p) (Memᴰ.append_left p.lone (halves-in p.contents.links m).0) (same-half h (first_half l) (sym e) (sym f))
      back (HalfListed.coming l m e f) =
          some_any (same_half h) (halves p) (Memᴰ.append_left p.lone (halves-in p.contents.links m).1) (same-half h (second_half l) (sym e) (sym f))
      back (HalfListed.alone k m e f) =
          some_any (same_half h) (halves p) (Memᴰ.append_right (link_halves p.contents.links) m) (same-half h k (sym e) (sym f))

  many : (u : ℕ) → Decides (16 ≤ halves_leaving p u) (halves_leaving p u < 16) (crowded p u)
  unfolding crowded
  many u = subst (λ (n : ℕ). Decides (16 ≤ halves_leaving p u) (halves_leaving p u < 16) (leb 16 n)) (sym (leaving_count p u)) (most 16 (halves_leaving p u))

  room : (adds : ℕ) → Decides (512 < halves_listed p + adds) (halves_listed p + adds ≤ 512) (ltb 512 (length (halves p) + adds))
  room adds =
      subst (λ (n : ℕ). Decides (512 < halves_listed p + adds) (halves_listed p + adds ≤ 512) (ltb 512 (n + adds))) (sym (halves_count p))
      (less 512 (halves_listed p + adds))

-- a test that is the last
last : {P Q : Type 0} {b : Bool} → Decides P Q b → Decides P Q (b || false)
last (holds x o) = holds x o
last (fails q o) = fails q o

-- the numbers of a record that lists the halves `new`, by what its last three tests say
module _ (p : StreamListing) (h : Half) (new : List Half) {P8 Q8 P9 Q9 P10 Q10 : Type 0} (eighth : Decides P8 Q8 (any (repeated p) new))
    (ninth : Decides P9 Q9 (ltb 512 (length (halves p) + length new))) (tenth : Decides P10 Q10 (any (λ k. crowded p k.from.0) new)) where
  record Says : Type 0 where
    says_5 : (halves_fault_lem p h new ≡ 5) ↔ ((length p.contents.ids ≤ h.from.0) ⊎ (length p.contents.ids ≤ h.to.0))
    says_6 : (halves_fault_lem p h new ≡ 6) ↔ (BothListed p h × (h.from.0 ≡ h.to.0))
    says_7 : (halves_fault_lem p h new ≡ 7) ↔ (Differing p h × (h.cost ≡ 0))
    says_8 : (halves_fault_lem p h new ≡ 8) ↔ (Costing p h × P8)
    says_9 : (halves_fault_lem p h new ≡ 9) ↔ ((Costing p h × Q8) × P9)
    says_10 : (halves_fault_lem p h new ≡ 10) ↔ (((Costing p h × Q8) × Q9) × P10)
    says_0 : (halves_fault_lem p h new ≡ 0) ↔ (((Costing p h × Q8) × Q9) × Q10)

  all_say : Says
  unfolding halves_fault_lem
  all_say =
      let n = length p.contents.ids in
      let unlisted = negated (both (less h.from.0 n) (less h.to.0 n)) in
      let itself = same h.from.0 h.to.0 in
      let free = same h.cost 0 in
      let left_6 : Left (halves_fault_lem p h new) (from_6 p h new) 5 (BothListed p h) = past (omega arith) unlisted in
      let left_7 : Left (halves_fault_lem p h new) (from_7 p h new) 6 (Differing p h) = next left_6 (omega arith) itself in
      let left_8 : Left (halves_fault_lem p h new) (from_8 p h new) 7 (Costing p h) = next left_7 (omega arith) free in
      let left_9 : Left (halves_fault_lem p h new) (from_9 p h new) 8 (Costing p h × Q8) = next left_8 (omega arith) eighth in
      let left_10 : Left (halves_fault_lem p h new) (from_10 p h new) 9 ((Costing p h × Q8) × Q9) = next left_9 (omega arith) ninth in
      let after-9 : Later 9 (from_10 p h new) = later tenth (omega arith) (λ s. omega arith) in
      let after-8 : Later 8 (from_9 p h new) = later ninth (omega arith) after-9 in
      let after-7 : Later 7 (from_8 p h new) = later eighth (omega arith) after-8 in
      let after-6 : Later 6 (from_7 p h new) = later free (omega arith) after-7 in
      let after-5 : Later 5 (from_6 p h new) = later itself (omega arith) after-6 in
      record {
        says_5 = found (omega arith) unlisted after-5;
        says_6 = says left_6 (omega arith) itself after-6;
        says_7 = says left_7 (omega arith) free after-7;
        says_8 = says left_8 (omega arith) eighth after-8;
        says_9 = says left_9 (omega arith) ninth after-9;
        says_10 = says left_10 (omega arith) tenth (λ s. omega arith);
        says_0 = ends (next left_10 (omega arith) tenth);
      }

pub half_faults : (p : StreamListing) (h : Half) → HalfFaults p h
unfolding fault
half_faults p h =
    let s = all_say p h (h ∷ []) (last (known p h)) (room p 1) (last (many p h.from.0)) in
    record {
      says_5 = s.says_5;
      says_6 = s.says_6;
      says_7 = s.says_7;
      says_8 = s.says_8;
      says_9 = s.says_9;
      says_10 = s.says_10;
      says_0 = s.says_0;
    }

pub link_faults : (p : StreamListing) (h : Half) → LinkFaults p h
unfolding fault opposite
link_faults p h =
    let s =
    all_say p h (h ∷ opposite h ∷ []) (either (known p h) (last (known p (opposite h)))) (room p 2)
    (either (many p h.from.0) (last (many p h.to.0))) in
    record {
      says_5 = s.says_5;
      says_6 = s.says_6;
      says_7 = s.says_7;
      says_8 = s.says_8;
      says_9 = s.says_9;
      says_10 = s.says_10;
      says_0 = s.says_0;
    }
