-- Records, one for each element of a list: how long they are, and one more put behind the others, where the others end.
-- Assumes nothing.
use Prim.Native.Nat.{ℕ, ◌+◌, ◌*◌, ◌≤◌, ◌<◌}
use mathlib.Core.List.{List, [], ◌∷◌, ◌++◌, append_assoc, append-nil, Memᴰ}
use mathlib.Core.Path.{◌≡◌, refl, sym, ap, ap₂, ◌∙◌}
use native.Mathlib.Nat.{mul-zero, mul-suc}
use native.Mathlib.Omega.{arith}
use lib.ListN.{length, take, drop, get_or, length-append, take-append-drop}
use lib.Seq.{take-take, take_all}
use Rattle.topology_types.proofs.Prefix.{take_more}
use Rattle.stream_rules.specs.Stream.{in_bytes}
use Rattle.topology.specs.Written.{joined_over, router_bytes}

pub router_five : (id : ℕ) → length (router_bytes id) ≡ 5
unfolding router_bytes in_bytes
router_five id = refl

-- texts that are the same for each element
pub joined_same : {A : Type 0} (f g : A → List ℕ) (xs : List A) → ((x : A) → Memᴰ x xs → f x ≡ g x) → joined_over f xs ≡ joined_over g xs
unfolding joined_over
joined_same f g [] each = refl
joined_same f g (x ∷ xs) each =
    ap₂ (λ (l r : List ℕ). l ++ r) (each x (Memᴰ.head refl)) (joined_same f g xs (λ y m. each y (Memᴰ.tail m)))

module _ {A : Type 0} (f : A → List ℕ) where
  -- those of two lists, one behind the other
  pub joined_behind : (xs ys : List A) → joined_over f (xs ++ ys) ≡ joined_over f xs ++ joined_over f ys
  unfolding joined_over
  joined_behind [] ys = refl
  joined_behind (x ∷ xs) ys = rw (joined_behind xs ys, append_assoc)

  pub joined_last : (xs : List A) (x : A) → joined_over f (xs ++ (x ∷ [])) ≡ joined_over f xs ++ f x
  unfolding joined_over
  joined_last [] x = append-nil (f x)
  joined_last (y ∷ ys) x = rw (joined_last ys x, append_assoc)

  module _ {width : ℕ} (wide : (x : A) → length (f x) ≡ width) where
    pub joined_length : (xs : List A) → length (joined_over f xs) ≡ width * length xs
    unfolding joined_over
    joined_length [] = sym (mul-zero width)
    joined_length (x ∷ xs) = simp (length-append, wide, joined_length xs, mul-suc) (omega arith)

    pub joined_many : (xs : List A) {i : ℕ} → length xs ≡ i → length (joined_over f xs) ≡ width * i
    joined_many xs many = joined_length xs ∙ ap (λ (n : ℕ). width * n) many

  -- how long the records of the first elements are: one element more adds its own, and those of more are no shorter
  module _ (xs : List A) where
    pub firsts_more : (i : ℕ) (z : A) → i < length xs →
        length (joined_over f (take (i + 1) xs)) ≡ length (joined_over f (take i xs)) + length (f (get_or xs i z))
    firsts_more i z h = rw (take_more xs i z h, joined_last) (length-append (joined_over f (take i xs)) (f (get_or xs i z)))

    pub firsts_grow : (i n : ℕ) → i ≤ n → length (joined_over f (take i xs)) ≤ length (joined_over f (take n xs))
    firsts_grow i n few =
        let apart : take n xs ≡ take i xs ++ drop i (take n xs) = sym (rw (take-take i n xs few) at (take-append-drop i (take n xs))) in
        rw (apart, joined_behind) (simp length-append (omega arith))

  -- a loop that goes through them: the records of one element more, and room for those of all
  module _ (xs : List A) (i : ℕ) (z : A) (inside : i < length xs) where
    pub joined_more : joined_over f (take (i + 1) xs) ≡ joined_over f (take i xs) ++ f (get_or xs i z)
    joined_more = rw (take_more xs i z inside, joined_last)

    pub joined_fits : length (joined_over f (take i xs)) + length (f (get_or xs i z)) ≤ length (joined_over f xs)
    joined_fits =
        let all = ap (λ (ys : List A). length (joined_over f ys)) (take_all (length xs) xs (omega arith)) in
        omega (arith, firsts_more xs i z inside, firsts_grow xs (i + 1) (length xs) (omega arith), all)
