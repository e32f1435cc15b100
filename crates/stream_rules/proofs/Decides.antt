-- A chain of tests gives the number of the first that holds, or 0, and later tests have higher numbers: so where the tests up to n fail, a number above n,
-- or 0, is what the rest of the chain gives.
-- Assumes nothing.
use Prim.Native.Nat.{ℕ, ◌≤◌, ◌<◌}
use mathlib.Core.Bool.{Bool, true, false, cond, not, ◌&&◌, ◌||◌}
use mathlib.Core.Logic.{◌↔◌, ◌≢◌, ◌⊎◌, inl, inr, ⊎_elim}
use mathlib.Core.Path.{◌≡◌, refl}
use native.Mathlib.Omega.{arith}
use borrow.Author.Tests.{ltb-false, leb-false}
use lib.Dec.{T, eqb, ltb, leb, eqb→eq, ltb→lt, leb→le}
use Rattle.network.proofs.Tests.{as_false, eq_test}

-- what a test says where it holds, and where it fails
pub data Decides (P Q : Type 0) : Bool → Type 0 where
  holds : P → (Q → ⊥) → Decides P Q true
  fails : Q → (P → ⊥) → Decides P Q false

module _ {P Q : Type 0} where
  pub decide : (b : Bool) → (T b → P) → ((T b → ⊥) → Q) → (Q → P → ⊥) → Decides P Q b
  decide true f g o = holds (f tt) (λ q. o q (f tt))
  decide false f g o = fails (g (λ t. t)) (o (g (λ t. t)))

  pub negated : {b : Bool} → Decides P Q b → Decides Q P (not b)
  negated (holds p o) = fails p o
  negated (fails q o) = holds q o

  module _ {P' Q' : Type 0} where
    pub both : {a b : Bool} → Decides P Q a → Decides P' Q' b → Decides (P × P') (Q ⊎ Q') (a && b)
    both (holds p o) (holds p' o') = holds (p, p') (⊎_elim o o')
    both (holds p o) (fails q o') = fails (inr q) (λ (x, y). o' y)
    both (fails q o) d = fails (inl q) (λ (x, y). o x)

    pub either : {a b : Bool} → Decides P Q a → Decides P' Q' b → Decides (P ⊎ P') (Q × Q') (a || b)
    either (holds p o) d = holds (inl p) (λ (x, y). o x)
    either (fails q o) (holds p o') = holds (inr p) (λ (x, y). o' y)
    either (fails q o) (fails q' o') = fails (q, q') (⊎_elim o o')

pub same : (m n : ℕ) → Decides (m ≡ n) (m ≢ n) (eqb m n)
same m n = decide (eqb m n) (eqb→eq m n) (λ o e. o (eq_test e)) (λ o e. o e)

pub less : (m n : ℕ) → Decides (m < n) (n ≤ m) (ltb m n)
less m n = decide (ltb m n) (ltb→lt m n) (λ o. ltb-false m n (as_false (ltb m n) o)) (λ h k. omega arith)

pub most : (m n : ℕ) → Decides (m ≤ n) (n < m) (leb m n)
most m n = decide (leb m n) (leb→le m n) (λ o. leb-false m n (as_false (leb m n) o)) (λ h k. omega arith)

-- m is 0 or above n
abbrev pub Later : ℕ → ℕ → Type 0
Later n m = 0 < m → n < m

pub later : {n k y : ℕ} {b : Bool} {P Q : Type 0} → Decides P Q b → n < k → Later k y → Later n (cond b k y)
later (holds p o) h l s = h
later (fails q o) h l s = omega (arith, l s)

pub neither : {X Y : Type 0} → (X → ⊥) → (Y → ⊥) → X ↔ Y
neither f g = (λ x. absurd (f x), λ y. absurd (g y))

module _ {P Q : Type 0} {k y : ℕ} (some : 0 < k) where
  pub found : {b : Bool} → Decides P Q b → Later k y → (cond b k y ≡ k) ↔ P
  found (holds p o) l = (λ e. p, λ x. refl)
  found (fails q o) l = neither (λ e. omega (arith, e, l (omega (arith, e)))) o

  pub past : {b : Bool} → Decides P Q b → (m : ℕ) → Later k m → (cond b k y ≡ m) ↔ (Q × (y ≡ m))
  past (holds p o) m l = neither (λ e. omega (arith, e, l (omega (arith, e)))) (λ (q, e). o q)
  past (fails q o) m l = (λ e. (q, e), λ (x, e). e)

-- the chain f has come to y: its tests up to n fail, which says R
abbrev pub Left : ℕ → ℕ → ℕ → Type 0 → Type 0
Left f y n R = (m : ℕ) → Later n m → (f ≡ m) ↔ (R × (y ≡ m))

module _ {f n k y : ℕ} {b : Bool} {R P Q : Type 0} (left : Left f (cond b k y) n R) (h : n < k) (d : Decides P Q b) where
  pub next : Left f y k (R × Q)
  next m l =
      let (on, back) = left m (λ s. omega (arith, l s)) in
      let (on', back') = past (omega arith) d m l in
      (λ e. let (r, e₁) = on e in let (q, e₂) = on' e₁ in ((r, q), e₂), λ ((r, q), e). back (r, back' (q, e)))

  pub says : Later k y → (f ≡ k) ↔ (R × P)
  says l =
      let (on, back) = left k (λ s. h) in
      let (on', back') = found (omega arith) d l in
      (λ e. let (r, e₁) = on e in (r, on' e₁), λ (r, p). back (r, back' p))

-- after the last test
pub ends : {f n : ℕ} {R : Type 0} → Left f 0 n R → (f ≡ 0) ↔ R
ends left = let (on, back) = left 0 (λ s. omega arith) in (λ e. (on e).0, λ r. back (r, refl))
