-- Texts put one behind the other are one text, and where each has at most so many bytes it ends where room was asked for.
-- Assumes nothing.
use Prim.Native.Nat.{ℕ, suc, ◌+◌, ◌*◌, ◌≤◌}
use mathlib.Core.List.{List, [], ◌∷◌, ◌++◌, Memᴰ}
use mathlib.Core.Path.{◌≡◌, refl}
use native.Mathlib.Nat.{mul-suc}
use native.Mathlib.Numerals.{add-one}
use native.Mathlib.Omega.{arith}
use lib.ListN.{length, length-append}
use Rattle.network.specs.Lists.{numbers_from, below}
use Rattle.topology.specs.Written.{joined_over}
use Rattle.topology.proofs.Joined.{joined_last}
use Rattle.arcs.proofs.Slots.{below_more}
use Rattle.text.specs.Page.{Puts}
use Rattle.text.specs.declared.unchecked.lines.Page.{Page}
use Rattle.text.proofs.Stores.{joined, nothing}

module _ {A : Type 0} (f : A → List ℕ) where
  -- texts of at most so many bytes each
  pub joined_most : (most : ℕ) (xs : List A) → ((x : A) → Memᴰ x xs → length (f x) ≤ most) → length (joined_over f xs) ≤ most * length xs
  unfolding joined_over
  joined_most most [] each = omega arith
  joined_most most (x ∷ xs) each =
      let wide : most * suc (length xs) ≡ most * length xs + most = mul-suc most (length xs) in
      simp length-append (omega (arith, each x (Memᴰ.head refl), joined_most most xs (λ y m. each y (Memᴰ.tail m))))

  -- the texts of the elements of a list, of which there are i, were put; none has more than `most` bytes
  pub record SoFar (most : ℕ) (entry : Page) (xs : List A) (i : ℕ) (page : Page) : Type 0 where
    pub puts : Puts entry (joined_over f xs) page
    pub ends : page.filled ≤ entry.filled + most * i

  module _ (most : ℕ) where
    pub none : (entry : Page) → SoFar most entry [] 0 entry
    unfolding joined_over
    none entry = record { puts = nothing entry; ends = omega arith }

    -- one element more
    pub more : {entry : Page} {xs : List A} {i : ℕ} {page next : Page} → SoFar most entry xs i page → (x : A) → length (f x) ≤ most →
        Puts page (f x) next → {ys : List A} → ys ≡ xs ++ (x ∷ []) → SoFar most entry ys (i + 1) next
    more {xs = xs} {i = i} s x few p e =
        let wide : most * (i + 1) ≡ most * i + most = rw add-one (mul-suc most i) in
        record { puts = rw (e, joined_last f) (joined s.puts p); ends = omega (arith, p.put.after, s.ends) }

-- the texts of the numbers below i
module _ (f : ℕ → List ℕ) (most : ℕ) where
  pub none_below : (entry : Page) → SoFar f most entry (below 0) 0 entry
  unfolding below numbers_from
  none_below entry = none f most entry

  pub more_below : {entry : Page} {i : ℕ} {page next : Page} → SoFar f most entry (below i) i page → length (f i) ≤ most → Puts page (f i) next →
      SoFar f most entry (below (i + 1)) (i + 1) next
  more_below {i = i} s few p = more f most s i few p (below_more i)
