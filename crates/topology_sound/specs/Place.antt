-- The two tests with which every call begins that is given a place (01, Refusals, 14 and 15).
-- Assumes nothing.
use Rattle.std.specs.Prelude.{ℕ, cond, ltb}
use Rattle.topology_types.specs.declared.Topology.{Topology}
use Rattle.topology_sound.specs.Sound.{sound}

-- 01, Refusals, 14 at 0, then 15 at a place that is not below N; where both pass, what comes next
unfoldable pub on_place : {A : Type 0} → (ℕ → ℕ → A) → Topology → ℕ → A → A
on_place refuse t u next = cond (sound t) (cond (ltb u t.routers) next (refuse 15 u)) (refuse 14 0)
