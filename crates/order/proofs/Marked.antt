-- Marks by place for the places that a list holds: with one place more at the list's end, they are the marks with that place marked.
-- Assumes nothing.
use Prim.Native.Nat.{ℕ, ◌<◌}
use mathlib.Core.Bool.{Bool, true, false, ◌||◌}
use mathlib.Core.List.Memᴰ
use mathlib.Core.List.{List, [], ◌∷◌, ◌++◌}
use mathlib.Core.Logic.{◌≢◌}
use mathlib.Core.Path.{◌≡◌, refl, sym, ap, ◌∙◌}
use borrow.Author.Tests.{ne_eqb}
use lib.Dec.{eqb}
use lib.ListN.{length, get_or, set}
use Rattle.network.specs.Lists.{member}
use Rattle.network.proofs.Lists.{mem_member}
use Rattle.network.proofs.Tests.{as_true}
use Rattle.distances.proofs.Stored.{stored}

pub member_last : (u : ℕ) (xs : List ℕ) → member u (xs ++ (u ∷ [])) ≡ true
member_last u xs = as_true (member u (xs ++ (u ∷ []))) (mem_member u (xs ++ (u ∷ [])) (Memᴰ.append_right xs (Memᴰ.head refl)))

pub member_other : (v u : ℕ) (xs : List ℕ) → v ≢ u → member v (xs ++ (u ∷ [])) ≡ member v xs
unfolding member
member_other v u [] apart = rw (ne_eqb v u apart)
member_other v u (x ∷ xs) apart = ap (λ (b : Bool). eqb v x || b) (member_other v u xs apart)

pub marked_more : (marks : List Bool) (xs : List ℕ) (u n : ℕ) → u < length marks → ((v : ℕ) → v < n → get_or marks v false ≡ member v xs) →
    (v : ℕ) → v < n → get_or (set marks u true) v false ≡ member v (xs ++ (u ∷ []))
marked_more marks xs u n inside marked =
    stored (λ v mark. v < n → mark ≡ member v (xs ++ (u ∷ []))) marks u true false inside
    (λ _. sym (member_last u xs))
    (λ v apart h. marked v h ∙ sym (member_other v u xs apart))
