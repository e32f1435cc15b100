-- The tables that halves are looked up in: what each costs, at u * 64 + v for that from u to v, and how many leave a place. A half more that was not there
-- is one store in each, wherever it stands among the others.
-- Assumes nothing.
use Prim.Native.Nat.{ℕ, ◌+◌, ◌*◌, ◌<◌}
use mathlib.Core.Bool.{cond, not}
use mathlib.Core.List.{List, []}
use mathlib.Core.Logic.{◌⊎◌, inl, inr}
use mathlib.Core.Path.{◌≡◌, ap, ◌∙◌}
use native.Mathlib.Decide.{ℕ_discrete}
use native.Mathlib.Omega.{arith}
use borrow.Author.Tests.{eq-eqb, ne_eqb}
use lib.Dec.{T, eqb}
use lib.ListN.{get_or, set, replicate, length-set, length-replicate, get_or-replicate}
use lib.Seq.{get_or-set_same, get_or-set_other}
use Rattle.network.specs.Lists.{any}
use Rattle.network.proofs.Tests.{and, truth, as_true, as_false, eq_test}
use Rattle.network.proofs.Lists.{any_some}
use Rattle.topology_types.specs.declared.Half.{Half}
use Rattle.stream_rules.specs.Halves.{same_half, leaves}
use Rattle.stream_rules.proofs.Halves.{total_part, none_total, nothing_kept, Adds}
use Rattle.stream_rules.specs.Inner.{Tabled, Tallied, cost_like, one_if, total}
use Rattle.stream_rules.proofs.Opposite.{same_places, same_tests, total_same}
use Rattle.stream_rules.proofs.GoodHalves.{unsound, half_sound, leaves_it, leaves_other}

pub tabled_none : Tabled (replicate 4096 0) []
unfolding total
tabled_none = record {
  long = length-replicate {A = ℕ} 4096 0;
  at = λ g f s. get_or-replicate {A = ℕ} 4096 (g.from.0 * 64 + g.to.0) 0 0 (omega arith);
}

pub tallied_none : Tallied (replicate 64 0) []
unfolding total
tallied_none = record { long = length-replicate {A = ℕ} 64 0; at = λ u h. get_or-replicate {A = ℕ} 64 u 0 0 h }

-- what a half costs that is the same, and what one that is not
same_cost : (g h : Half) → T (same_half g h) → cost_like g h ≡ h.cost
unfolding cost_like
same_cost g h t = rw (as_true (same_half g h) t)

other_cost : (g h : Half) → (T (same_half g h) → ⊥) → cost_like g h ≡ 0
unfolding cost_like
other_cost g h o = rw (as_false (same_half g h) o)

pub same-half : (g h : Half) → g.from.0 ≡ h.from.0 → g.to.0 ≡ h.to.0 → T (same_half g h)
unfolding same_half
same-half g h e f = and (eqb g.from.0 h.from.0) _ (eq_test e) (eq_test f)

none_cost : (h : Half) (hs : List Half) → total (one_if (same_half h)) hs ≡ 0 → total (cost_like h) hs ≡ 0
unfolding cost_like
none_cost h hs e = nothing_kept (same_half h) (λ k. k.cost) hs e

module _ (hs more : List Half) (h : Half) (adds : Adds hs h more) {u v : ℕ} (from : u ≡ h.from.0) (to : v ≡ h.to.0) (u_in : u < 64) (v_in : v < 64) where
  pub tabled_more : (costs : List ℕ) → Tabled costs hs → total (one_if (same_half h)) hs ≡ 0 → Tabled (set costs (u * 64 + v) h.cost) more
  tabled_more costs w none =
      record { long = length-set costs (u * 64 + v) h.cost ∙ w.long; at = λ g f s. step g f s (truth (same_half g h)) }
    where
      step : (g : Half) → g.from.0 < 64 → g.to.0 < 64 → T (same_half g h) ⊎ (T (same_half g h) → ⊥) →
          get_or (set costs (u * 64 + v) h.cost) (g.from.0 * 64 + g.to.0) 0 ≡ total (cost_like g) more
      step g f s (inl t) =
          let (e, d) = same_places g h t in
          let place : g.from.0 * 64 + g.to.0 ≡ u * 64 + v = omega arith in
          let before = total_same (cost_like g) (cost_like h) hs (λ k. unfold cost_like in ap (λ b. cond b k.cost 0) (same_tests g h t k)) in
          rw (place, get_or-set_same costs (u * 64 + v) h.cost 0 (omega (arith, w.long)))
          (omega (arith, adds (cost_like g), before, none_cost h hs none, same_cost g h t))
      step g f s (inr o) =
          get_or-set_other costs (u * 64 + v) (g.from.0 * 64 + g.to.0) h.cost 0 (λ q. o (same-half g h (omega arith) (omega arith)))
          ∙ omega (arith, w.at g f s, adds (cost_like g), other_cost g h o)

  pub tallied_more : (leaving : List ℕ) → Tallied leaving hs → Tallied (set leaving u (get_or leaving u 0 + 1)) more
  tallied_more leaving w =
      record { long = length-set leaving u (get_or leaving u 0 + 1) ∙ w.long; at = λ x x-in. step x x-in (ℕ_discrete x u) }
    where
      step : (x : ℕ) → x < 64 → Dec (x ≡ u) → get_or (set leaving u (get_or leaving u 0 + 1)) x 0 ≡ total (one_if (leaves x)) more
      step x x-in (yes e) =
          rw (e, get_or-set_same leaving u (get_or leaving u 0 + 1) 0 (omega (arith, w.long)))
          (rw from (omega (arith, w.at h.from.0 (omega arith), adds (one_if (leaves h.from.0)), leaves_it h)))
      step x x-in (no o) =
          get_or-set_other leaving u x (get_or leaving u 0 + 1) 0 o
          ∙ omega (arith, w.at x x-in, adds (one_if (leaves x)), leaves_other x h (λ e. o (omega arith)))

-- every half costs something, so a cost of 0 says that it is not there
pub cost_tells : (n : ℕ) (hs : List Half) → total (unsound n) hs ≡ 0 → (h : Half) → not (eqb (total (cost_like h) hs) 0) ≡ any (same_half h) hs
cost_tells n hs each h = step (truth (any (same_half h) hs))
  where
    step : T (any (same_half h) hs) ⊎ (T (any (same_half h) hs) → ⊥) → not (eqb (total (cost_like h) hs) 0) ≡ any (same_half h) hs
    step (inl t) =
        let (k, m, same) = any_some (same_half h) hs t in
        rw (
          as_true (any (same_half h) hs) t,
          ne_eqb (total (cost_like h) hs) 0
              (λ z. omega (arith, total_part (cost_like h) hs m, same_cost h k same, (half_sound n hs each k m).cost_least)),
        )
    step (inr o) =
        let e = as_false (any (same_half h) hs) o in
        rw (e, eq-eqb (total (cost_like h) hs) 0 (none_cost h hs (none_total (same_half h) hs e)))
