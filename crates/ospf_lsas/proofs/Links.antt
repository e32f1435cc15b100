-- Links are taken from the front, one at a time, each as wide as its number of TOS says; none may be left over.
-- Assumes nothing.
use Prim.Native.Nat.{ℕ, zero, suc, ◌+◌, ◌-◌, ◌*◌, ◌≤◌, ◌<◌}
use mathlib.Core.Bool.{Bool, true, false, cond, ◌&&◌, false≢true}
use mathlib.Core.List.Memᴰ
use mathlib.Core.List.{List, [], ◌∷◌, Memᴰ}
use mathlib.Core.Logic.{⊎_elim}
use mathlib.Core.Option.{Option, none, some, none-ne-some, some-injective}
use Rattle.std.proofs.Common.{Some, None}
use mathlib.Core.Path.{◌≡◌, refl, sym, ap, subst, ◌∙◌}
use native.Mathlib.Numerals.{sub-one}
use native.Mathlib.Omega.{arith}
use borrow.Author.Tests.{leb-true, le-leb, ne_eqb}
use lib.Dec.{eqb}
use lib.ListN.{length, get_or, take, drop}
use Rattle.stream_rules.specs.Stream.{big_endian}
use lib.Seq.{get_or-drop}
use Rattle.ospf_lsas.specs.Lsa.{RouterLink, link_in, link_length_lem, whole_link, link_before, links_in, some?, all_of}
use Rattle.stream_rules.specs.Theorems.{two_at}
use Rattle.ospf_lsas.specs.Theorems.{Links, no-link, link, LinksListed, Metrics}
use Rattle.ospf_lsas.proofs.Fields.{link_is, link_reads}

pub both : (a b : Bool) → (a && b) ≡ true → (a ≡ true) × (b ≡ true)
both true b e = (refl, e)
both false b e = absurd (let z : ◌≡◌ {A = ℕ} 0 1 = cc in omega arith)

-- what a whole link is
pub record Whole (s : List ℕ) : Type 0 where
  pub fits : 12 + 4 * get_or s 9 0 ≤ length s
  pub least : 1 ≤ get_or s 8 0
  pub most : get_or s 8 0 ≤ 4

module _ (s : List ℕ) where
  pub whole_says : whole_link s ≡ true → Whole s
  unfolding whole_link link_length_lem
  whole_says e =
      let (front, most) = both _ _ e in
      let (fits, least) = both _ _ front in
      record { fits = leb-true _ _ fits; least = leb-true _ _ least; most = leb-true _ _ most }

  whole_is : Whole s → whole_link s ≡ true
  unfolding whole_link link_length_lem
  whole_is w =
      rw (le-leb (12 + 4 * get_or s 9 0) (length s) w.fits, le-leb 1 (get_or s 8 0) w.least, le-leb (get_or s 8 0) 4 w.most)

listed : (n : ℕ) (s : List ℕ) (ls : List RouterLink) → links_in n s ≡ some ls → Links n s ls
unfolding links_in link_before link_length_lem
listed zero [] ls e = subst (λ (ls : List RouterLink). Links 0 [] ls) (some-injective [] ls e) no-link
listed zero (b ∷ s) ls e = absurd (none-ne-some ls e)
listed (suc n) s ls e = go (whole_link s) refl (links_in n (drop (link_length_lem s) s)) (listed n (drop (link_length_lem s) s)) e
  where
    go : (b : Bool) → whole_link s ≡ b → (o : Option (List RouterLink)) →
        ((rest : List RouterLink) → o ≡ some rest → Links n (drop (link_length_lem s) s) rest) →
        cond b (link_before (link_in s) o) none ≡ some ls → Links (suc n) s ls
    go false w o others e = absurd (none-ne-some ls e)
    go true w none others e = absurd (none-ne-some ls e)
    go true w (some rest) others e =
        let h = whole_says s w in
        subst (λ (ls : List RouterLink). Links (suc n) s ls)
        (ap (λ (l : RouterLink). l ∷ rest) (sym (link_is s (omega arith))) ∙ some-injective (link_in s ∷ rest) ls e)
        (link s h.fits h.least h.most (others rest refl))

gives : {n : ℕ} {s : List ℕ} {ls : List RouterLink} → Links n s ls → links_in n s ≡ some ls
unfolding links_in link_before link_length_lem
gives no-link = refl
gives (link s fits least most rest) =
    rw (whole_is s (record { fits = fits; least = least; most = most }), gives rest, link_is s (omega arith))

pub links_listed : LinksListed
links_listed n s ls = (listed n s ls, gives)

metric_fits : {n : ℕ} {s : List ℕ} {ls : List RouterLink} → Links n s ls → ((i : ℕ) → get_or s i 0 < 256) →
    (l : RouterLink) → Memᴰ l ls → l.metric < 65536
metric_fits no-link bytes l m = absurd (Memᴰ.not-nil m)
metric_fits (link s fits least most rest) bytes l m =
    ⊎_elim (λ e. rw e (omega (arith, bytes 10, bytes 11)))
    (λ k. metric_fits rest (λ i. rw (get_or-drop (12 + 4 * get_or s 9 0) s i 0) (bytes (12 + 4 * get_or s 9 0 + i))) l k) (Memᴰ.cases_cons m)

pub metrics : Metrics
metrics n s bytes ls e = metric_fits ((links_listed n s ls).0 e) bytes

-- so many links are the first of them and the others behind it
module _ (n : ℕ) (s : List ℕ) where
  pub one_more : whole_link s ≡ true → some? (links_in (suc n) s) ≡ some? (links_in n (drop (link_length_lem s) s))
  unfolding links_in link_before some?
  one_more e = rw e (kept (links_in n (drop (link_length_lem s) s)))
    where
      kept : (o : Option (List RouterLink)) → some? (link_before (link_in s) o) ≡ some? o
      kept none = refl
      kept (some ls) = refl

  pub no_more : whole_link s ≡ false → some? (links_in (suc n) s) ≡ false
  unfolding links_in some?
  no_more e = rw e refl

-- the link that is handed on, and those behind it
pub record Next (left : ℕ) (s : List ℕ) : Type 0 where
  pub whole : Whole s
  pub others : some? (links_in (left - 1) (drop (12 + 4 * get_or s 9 0) s)) ≡ true
  pub front : all_of (links_in left s)
      ≡ record { id = big_endian (take 4 s); kind = get_or s 8 0; metric = two_at s 10 } ∷ all_of (links_in (left - 1) (drop (12 + 4 * get_or s 9 0) s))

pub next_link : (left : ℕ) (s : List ℕ) → (left ≡ 0 → ⊥) → some? (links_in left s) ≡ true → Next left s
unfolding links_in link_before some? all_of link_length_lem
next_link zero s h t = absurd (h refl)
next_link (suc n) s h t =
    let (w, others, front) = go (whole_link s) refl (links_in n (drop (link_length_lem s) s)) t in
    let whole = whole_says s w in
    record {
      whole = whole;
      others = rw (sub-one (suc n)) others;
      front = rw (sub-one (suc n), ← link_reads s (omega (arith, whole.fits))) front;
    }
  where
    go : (b : Bool) → whole_link s ≡ b → (o : Option (List RouterLink)) → some? (cond b (link_before (link_in s) o) none) ≡ true →
        (whole_link s ≡ true) × (some? o ≡ true) × (all_of (cond b (link_before (link_in s) o) none) ≡ link_in s ∷ all_of o)
    go false e o t = absurd (false≢true t)
    go true e none t = absurd (false≢true t)
    go true e (some ls) t = (e, refl, refl)

pub no_links : (s : List ℕ) → all_of (links_in 0 s) ≡ []
unfolding links_in all_of
no_links [] = refl
no_links (b ∷ s) = refl

pub none_left : (s : List ℕ) → some? (links_in 0 s) ≡ eqb (length s) 0
unfolding links_in some?
none_left [] = refl
none_left (b ∷ s) = sym (ne_eqb (suc (length s)) 0 (λ e. omega arith))

-- the length of a link, by whether it is whole
module _ (s : List ℕ) where
  pub is_link : Whole s → Some (12 + 4 * get_or s 9 0) ≡ cond (whole_link s) (Some (link_length_lem s)) None
  unfolding link_length_lem
  is_link w = rw (whole_is s w) refl

  pub no_link : (Whole s → ⊥) → None ≡ cond (whole_link s) (Some (link_length_lem s)) None
  no_link h = go (whole_link s) refl
    where
      go : (b : Bool) → whole_link s ≡ b → None ≡ cond b (Some (link_length_lem s)) None
      go true e = absurd (h (whole_says s e))
      go false e = refl

  -- and what the length says of it
  pub link_there : (n : ℕ) → Some n ≡ cond (whole_link s) (Some (link_length_lem s)) None → (whole_link s ≡ true) × (n ≡ link_length_lem s) × (n ≤ length s)
  unfolding link_length_lem
  link_there n e = go (whole_link s) refl e
    where
      go : (b : Bool) → whole_link s ≡ b → Some n ≡ cond b (Some (link_length_lem s)) None → (whole_link s ≡ true) × (n ≡ link_length_lem s) × (n ≤ length s)
      go true w h = let is : n ≡ 12 + 4 * get_or s 9 0 = cc in (w, is, omega (arith, (whole_says s w).fits))
      go false w h = cc

  pub none_there : None ≡ cond (whole_link s) (Some (link_length_lem s)) None → whole_link s ≡ false
  none_there e = go (whole_link s) refl e
    where
      go : (b : Bool) → whole_link s ≡ b → None ≡ cond b (Some (link_length_lem s)) None → whole_link s ≡ false
      go true w h = cc
      go false w h = w
