-- Plain lists: tests over them, what stands first or is least in them, and what holds of each two elements. Every section of 01 speaks of such lists;
-- only the rule for ties is a rule of 01.
-- Assumes nothing.
use Rattle.std.specs.Prelude.{ℕ, zero, suc, ◌+◌, min, max, Bool, true, false, cond, ◌&&◌, ◌||◌, ◌≢◌, eqb, ltb, length, filter}
use Rattle.std.specs.List.{list_all, list_any}
use mathlib.Core.List.{List, [], ◌∷◌, Memᴰ}
use Rattle.std.proofs.Math.Option.{Option, none, some}

-- `count` numbers one after the other, the first of them `first`
unfoldable pub numbers_from : ℕ → ℕ → List ℕ
numbers_from first zero = []
numbers_from first (suc count) = first ∷ numbers_from (suc first) count

-- the numbers below n
unfoldable pub below : ℕ → List ℕ
below n = numbers_from 0 n

module _ {A : Type 0} where
  -- the elements that pass the test, in their order
  abbrev pub keep : (A → Bool) → List A → List A
  keep = filter

  -- every element passes the test
  abbrev pub every : (A → Bool) → List A → Bool
  every = list_all

  -- some element passes the test
  abbrev pub any : (A → Bool) → List A → Bool
  any = list_any

  -- the least of `start` and what f gives over the list
  unfoldable pub least_by : (A → ℕ) → ℕ → List A → ℕ
  least_by f start [] = start
  least_by f start (x ∷ xs) = min (f x) (least_by f start xs)

  -- the greatest that f gives over the list, 0 if there is none
  unfoldable pub greatest_by : (A → ℕ) → List A → ℕ
  greatest_by f [] = 0
  greatest_by f (x ∷ xs) = max (f x) (greatest_by f xs)

  -- how many elements there are, counted on from `total`; a count beyond `most` stops at one more than that
  unfoldable pub counted : ℕ → ℕ → List A → ℕ
  counted most total xs = min (suc most) (total + length xs)

  -- x, unless there is another, which x does not precede
  unfoldable pub ahead : (A → A → Bool) → A → Option A → A
  ahead precedes x none = x
  ahead precedes x (some y) = cond (precedes x y) x y

  -- the element that precedes every other
  unfoldable pub foremost : (A → A → Bool) → List A → Option A
  foremost precedes [] = none
  foremost precedes (x ∷ xs) = some (ahead precedes x (foremost precedes xs))

  -- x put before the first element that it precedes
  unfoldable pub insert : (A → A → Bool) → A → List A → List A
  insert precedes x [] = x ∷ []
  insert precedes x (y ∷ ys) = cond (precedes x y) (x ∷ y ∷ ys) (y ∷ insert precedes x ys)

  -- the elements, sorted: each put in its place among those after it
  unfoldable pub sort : (A → A → Bool) → List A → List A
  sort precedes [] = []
  sort precedes (x ∷ xs) = insert precedes x (sort precedes xs)

  -- each element stands in R to each one after it
  pub data Pairwise (R : A → A → Type 0) : List A → Type 0 where
    nothing : Pairwise R []
    then : {x : A} {xs : List A} → ((y : A) → Memᴰ y xs → R x y) → Pairwise R xs → Pairwise R (x ∷ xs)

  -- no element stands twice
  abbrev pub Distinct : List A → Type 0
  Distinct xs = Pairwise (λ x y. x ≢ y) xs

-- u stands in the list
unfoldable pub member : ℕ → List ℕ → Bool
member u us = any (eqb u) us

-- each number of the list stands in it once
unfoldable pub distinct : List ℕ → Bool
distinct [] = true
distinct (u ∷ us) = cond (member u us) false (distinct us)

-- two lists hold the same numbers, in the same order
unfoldable pub same_numbers : List ℕ → List ℕ → Bool
same_numbers [] [] = true
same_numbers [] (y ∷ ys) = false
same_numbers (x ∷ xs) [] = false
same_numbers (x ∷ xs) (y ∷ ys) = eqb x y && same_numbers xs ys

-- 01, Order, and Rows and tables, ties by the higher router ID: x is less than y, or they are equal and the ID i is higher than the ID j
unfoldable pub wins : ℕ → ℕ → ℕ → ℕ → Bool
wins x y i j = ltb x y || (eqb x y && ltb j i)
