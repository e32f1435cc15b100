-- The loop of `order::unchecked::ranks_of`: each place that stands at a rank passed has its rank, and each that the order does not hold has 255.
-- Assumes nothing.
use Rattle.std.proofs.Common.{ℕ, ◌≡◌, ◌<◌, length, get_or, take}
use mathlib.Core.List.{Memᴰ}
use Rattle.network.specs.Row as row
use Rattle.order.proofs.unchecked.ranks_of.Given as goal

abbrev pub invariant-loop-rank : goal.invariant-loop-rank
invariant-loop-rank l =
    record {
      long : length l.by ≡ 64;
      ranks : (v : ℕ) → Memᴰ v (take l.rank l.order) → (get_or l.by v (record { 0 = 0 })).0 ≡ row.rank l.order v;
      others : (v : ℕ) → v < 64 → (Memᴰ v l.order → ⊥) → (get_or l.by v (record { 0 = 0 })).0 ≡ 255;
    }
