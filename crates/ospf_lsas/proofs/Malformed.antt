-- An LSA is malformed where one of the tests fails, in their order; one that is not ends within the bytes, and is the same without those after it.
-- Assumes nothing.
use Prim.Native.Nat.{ℕ, zero, suc, ◌-◌, ◌≤◌, ◌<◌}
use mathlib.Core.Bool.{Bool, true, false, cond, not, ◌||◌}
use mathlib.Core.List.{List, [], ◌∷◌}
use mathlib.Core.Logic.{◌≢◌}
use mathlib.Core.Option.{Option, none, some}
use Rattle.std.proofs.Common.{Some, None}
use mathlib.Core.Path.{◌≡◌, refl, sym, ap, ◌∙◌}
use native.Mathlib.Nat.{sub-zero, zero-sub}
use native.Mathlib.Omega.{arith}
use borrow.Author.Tests.{ltb-false, le-ltb, lt-ltb, eqb-true, eq-eqb, ne_eqb, not-false}
use lib.ListN.{length, get_or, take, drop}
use lib.Seq.{length-take-le, get_or-take, take-take, take-nil}
use Rattle.ospf_lsas.specs.Lsa.{ls_type, length_field, RouterLink, links_in, some?, links, malformed}
use Rattle.stream_rules.specs.Theorems.{two_at}
use Rattle.ospf_lsas.specs.Theorems.{RouterLsa, LsasFormed, LinksOf}
use Rattle.ospf_lsas.proofs.Fields.{fields_each}
use Rattle.ospf_lsas.proofs.Links.{links_listed}

pub neither : (a b : Bool) → (a || b) ≡ false → (a ≡ false) × (b ≡ false)
neither false b e = (refl, e)
neither true b e = absurd (let z : ◌≡◌ {A = ℕ} 0 1 = cc in omega arith)

-- where the 24 bytes are there, the links by the bytes that say how many and how long
pub links_by : (s : List ℕ) → 24 ≤ length s → links s ≡ links_in (two_at s 22) (drop 24 (take (two_at s 18) s))
unfolding links
links_by s h = rw ((fields_each s h).ls_length, (fields_each s h).link-count)

pub links_of : LinksOf
links_of s ls r = links_by s (omega arith) ∙ (links_listed (two_at s 22) (drop 24 (take (two_at s 18) s)) ls).1 r.matching

-- the tests in their order
module _ (s : List ℕ) where
  pub too_short : length s < 24 → malformed s ≡ true
  unfolding malformed
  too_short h = rw (lt-ltb (length s) 24 h)

  module _ (enough : 24 ≤ length s) where
    pub cut-short : length s < two_at s 18 → malformed s ≡ true
    unfolding malformed
    cut-short h = rw ((fields_each s enough).ls_length, le-ltb (length s) 24 enough, lt-ltb (length s) (two_at s 18) h)

    module _ (whole : two_at s 18 ≤ length s) where
      pub no_length : two_at s 18 < 24 → malformed s ≡ true
      unfolding malformed
      no_length h =
          rw ((fields_each s enough).ls_length, le-ltb (length s) 24 enough, le-ltb (length s) (two_at s 18) whole, lt-ltb (two_at s 18) 24 h)

      module _ (begun : 24 ≤ two_at s 18) where
        pub other_type : get_or s 3 0 ≢ 1 → malformed s ≡ true
        unfolding malformed ls_type
        other_type h =
            rw (
              (fields_each s enough).ls_length,
              le-ltb (length s) 24 enough,
              le-ltb (length s) (two_at s 18) whole,
              le-ltb (two_at s 18) 24 begun,
              ne_eqb (get_or s 3 0) 1 h,
            )

        pub by_links : get_or s 3 0 ≡ 1 → malformed s ≡ not (some? (links_in (two_at s 22) (drop 24 (take (two_at s 18) s))))
        unfolding malformed ls_type
        by_links h =
            rw (
              links_by s enough,
              (fields_each s enough).ls_length,
              le-ltb (length s) 24 enough,
              le-ltb (length s) (two_at s 18) whole,
              le-ltb (two_at s 18) 24 begun,
              eq-eqb (get_or s 3 0) 1 h,
            )

  is_some : (o : Option (List RouterLink)) → some? o ≡ true → (ls : List RouterLink) × (o ≡ some ls)
  unfolding some?
  is_some none e = absurd (let z : ◌≡◌ {A = ℕ} 0 1 = cc in omega arith)
  is_some (some ls) e = (ls, refl)

  says : malformed s ≡ false → (ls : List RouterLink) × RouterLsa s ls
  unfolding malformed ls_type
  says e =
      let (e₄, linked) = neither _ _ e in
      let (e₃, typed) = neither _ _ e₄ in
      let (e₂, begun) = neither _ _ e₃ in
      let (enough, whole) = neither _ _ e₂ in
      let h : 24 ≤ length s = ltb-false (length s) 24 enough in
      let long = (fields_each s h).ls_length in
      let (ls, is) = is_some (links s) (not-false _ linked) in (
        ls,
        record {
          begun = omega (arith, ltb-false (length_field s) 24 begun);
          whole = omega (arith, ltb-false (length s) (length_field s) whole);
          router = eqb-true _ _ (not-false _ typed);
          matching = (links_listed (two_at s 22) (drop 24 (take (two_at s 18) s)) ls).0 (sym (links_by s h) ∙ is);
        },
      )

  pub is_well : (ls : List RouterLink) → RouterLsa s ls → malformed s ≡ false
  unfolding some?
  is_well ls r =
      by_links (omega arith) r.whole r.begun r.router
      ∙ rw ((links_listed (two_at s 22) (drop 24 (take (two_at s 18) s)) ls).1 r.matching)

pub well_formed : LsasFormed
well_formed s = (says s, λ (ls, r). is_well s ls r)

-- a router-LSA without the bytes after it
alone : (s : List ℕ) (ls : List RouterLink) → RouterLsa s ls → RouterLsa (take (two_at s 18) s) ls
alone s ls r =
    let n = two_at s 18 in
    let same : (i : ℕ) → i < 24 → get_or (take n s) i 0 ≡ get_or s i 0 = λ i h. get_or-take n s i 0 (omega (arith, r.begun)) in
    let long : two_at (take n s) 18 ≡ n = rw (same 18 (omega arith), same 19 (omega arith)) in
    record {
      begun = omega (arith, r.begun);
      whole = omega (arith, length-take-le n s r.whole);
      router = same 3 (omega arith) ∙ r.router;
      matching = rw (long, same 22 (omega arith), same 23 (omega arith), take-take n n s (omega arith)) r.matching;
    }

-- what holds of an LSA that is not malformed: its length, and that its own bytes are not
pub record Cut (s : List ℕ) : Type 0 where
  pub begun : 24 ≤ length_field s
  pub fits : length_field s ≤ length s
  pub own : malformed (take (length_field s) s) ≡ false

pub cut : (s : List ℕ) → malformed s ≡ false → Cut s
cut s e =
    let (ls, r) = says s e in
    let h : 24 ≤ length s = omega (arith, r.begun, r.whole) in
    let long = (fields_each s h).ls_length in
    record {
      begun = omega (arith, r.begun);
      fits = omega (arith, r.whole);
      own = rw long (is_well (take (two_at s 18) s) ls (alone s ls r));
    }

pub enough : (s : List ℕ) → malformed s ≡ false → 24 ≤ length s
enough s e = let c = cut s e in omega (arith, c.begun, c.fits)

-- what `length_of` answers where an LSA is malformed, and where it is not
pub refuses : (s : List ℕ) → malformed s ≡ true → None ≡ cond (malformed s) None (Some (length_field s))
refuses s e = rw e

pub drop_take : (m n : ℕ) (l : List ℕ) → drop m (take n l) ≡ take (n - m) (drop m l)
drop_take zero n l = rw (sub-zero n)
drop_take (suc m) zero l = rw (zero-sub (suc m))
drop_take (suc m) (suc n) [] = sym (take-nil (suc n - suc m))
drop_take (suc m) (suc n) (x ∷ l) = drop_take m n l ∙ ap (λ (k : ℕ). take k (drop m l)) {x = n - m} {y = suc n - suc m} (omega arith)

module _ (s : List ℕ) (enough : 24 ≤ length s) (whole : two_at s 18 ≤ length s) (begun : 24 ≤ two_at s 18) (router : get_or s 3 0 ≡ 1) where
  by_part : malformed s ≡ not (some? (links_in (two_at s 22) (take (two_at s 18 - 24) (drop 24 s))))
  by_part = rw (drop_take 24 (two_at s 18) s) at (by_links s enough whole begun router)

  pub no_links : some? (links_in (two_at s 22) (take (two_at s 18 - 24) (drop 24 s))) ≡ false → malformed s ≡ true
  no_links e = rw e at by_part

  pub answers : some? (links_in (two_at s 22) (take (two_at s 18 - 24) (drop 24 s))) ≡ true → Some (two_at s 18) ≡ cond (malformed s) None (Some (length_field s))
  answers e = rw (rw e at by_part) (ap Some (sym (fields_each s enough).ls_length))

-- the links of an LSA that is not malformed, by its bytes
pub record Body (s : List ℕ) : Type 0 where
  pub begun : 24 ≤ two_at s 18
  pub whole : two_at s 18 ≤ length s
  pub are : some? (links_in (two_at s 22) (take (two_at s 18 - 24) (drop 24 s))) ≡ true
  pub is : links_in (two_at s 22) (take (two_at s 18 - 24) (drop 24 s)) ≡ links s

pub body : (s : List ℕ) → malformed s ≡ false → Body s
unfolding some?
body s e =
    let (ls, r) = (well_formed s).0 e in
    let part = drop_take 24 (two_at s 18) s in
    record {
      begun = r.begun;
      whole = r.whole;
      are = rw (sym part, (links_listed (two_at s 22) (drop 24 (take (two_at s 18) s)) ls).1 r.matching) refl;
      is = sym (rw part at (links_by s (omega (arith, r.begun, r.whole))));
    }
