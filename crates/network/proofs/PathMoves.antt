-- Each move of a path takes the rank down, and at least 1 from the greatest hop count; down the entry that is greatest it takes just 1.
-- Assumes nothing.
use Prim.Native.Nat.{ℕ, zero, suc, ◌≤◌, ◌<◌}
use mathlib.Core.List.Memᴰ
use mathlib.Core.List.{List, [], ◌∷◌, Memᴰ}
use mathlib.Core.Logic.{◌≢◌, ⊎_elim}
use mathlib.Core.Path.{◌≡◌, refl, sym, ◌∙◌, ap}
use native.Mathlib.Omega.{arith}
use lib.Dec.{T}
use lib.ListN.{length}
use Rattle.network.specs.Lists.{greatest_by, Pairwise, nothing, then}
use Rattle.network.specs.Forwarding.{Forwarding, longest}
use Rattle.network.specs.Theorems.Forwarding.{Lawful}
use Rattle.network.specs.Theorems.Paths.{PathsNeverRepeat, Met, here, down, LongestPaths}
use Rattle.network.proofs.Tests.{truth}
use Rattle.network.proofs.Lists.{empty}
use Rattle.network.proofs.Sort.{pairwise_map}
use Rattle.network.proofs.Greatest.{greatest_attained}
use Rattle.network.proofs.Forwarding.{lower}
use Rattle.network.proofs.Paths.{Down, ended, onward, mem_down, down_mem}

module _ (f : Forwarding) (rank : f.State → ℕ) (valid : f.States → Type 0) (law : Lawful f rank valid) where
  -- ranks fall along a path, from the start's down
  falling : {s : f.State} {p : List f.State} → Down f s p →
      Pairwise (λ earlier later. rank later < rank earlier) p × ((v : f.State) → Memᴰ v p → rank v ≤ rank s) × (length p ≤ suc (rank s))
  falling (ended h) = (then (λ v m. absurd (Memᴰ.not-nil m)) nothing, λ v m. omega (arith, ap rank (Memᴰ.eq_of_singleton m)), omega arith)
  falling {s} (onward e m d) =
      let (falls, most, short) = falling d in
      let lower = law.falls s e m in (
        then {x = s} (λ v k. let low : rank v ≤ rank (f.next e) = most v k in omega arith) falls,
        λ v k. ⊎_elim (λ same. omega (arith, ap rank same)) (λ l. omega (arith, most v l)) (Memᴰ.cases_cons k),
        omega arith,
      )

  no_longer : {s : f.State} {p : List f.State} → Down f s p → (left : ℕ) → rank s ≤ left → length p ≤ suc (longest f left s)
  no_longer (ended h) left r = omega arith
  no_longer {s} (onward e m d) left r = omega (arith, no_longer d left (omega (arith, law.falls s e m)), lower f rank valid law left s e r m)

  -- from home the one path makes no move, and home has no entries
  stay : (left : ℕ) (s : f.State) → T (f.home s) → (p : List f.State) × Down f s p × (length p ≡ suc (longest f left s))
  unfolding longest greatest_by
  stay zero s h = (s ∷ [], ended h, refl)
  stay (suc left) s h = (s ∷ [], ended h, rw (law.home_row s h))

  longest_down : (left : ℕ) (s : f.State) → rank s ≤ left → ((t : f.State) → Met f s t → (T (f.home t) → ⊥) → f.row t ≢ []) →
      (p : List f.State) × Down f s p × (length p ≡ suc (longest f left s))
  unfolding longest
  longest_down zero s r filled =
      ⊎_elim (stay zero s) (λ off. absurd (filled s here off (empty (f.row s) (λ e m. omega (arith, law.falls s e m))))) (truth (f.home s))
  longest_down (suc left) s r filled =
      ⊎_elim (stay (suc left) s)
      (λ off. ⊎_elim (λ none. absurd (filled s here off none.0))
      (λ (e, m, top).
      let (p, d, long) = longest_down left (f.next e) (omega (arith, law.falls s e m)) (λ t k. filled t (down e m k)) in
      (s ∷ p, onward e m d, ap suc (long ∙ sym top)))
      (greatest_attained (λ e. suc (longest f left (f.next e))) (f.row s)))
      (truth (f.home s))

pub paths_never_repeat : PathsNeverRepeat
paths_never_repeat f rank valid law left s r p m =
    let (falls, most, short) = falling f rank valid law (mem_down f left s m) in
    record { falls = falls; once = pairwise_map (λ v w k l (h : rank w < rank v) e. omega (arith, ap rank e)) falls; at_most_rank = short }

pub longest_paths : LongestPaths
longest_paths f rank valid law left s r =
    record {
      never_passed = λ p m. no_longer f rank valid law (mem_down f left s m) left r;
      reached = λ filled. let (p, d, long) = longest_down f rank valid law left s r filled in (p, down_mem f rank valid law d left r, long);
    }
