-- What every value of the struct has, whatever it holds: its slots, and numbers that fit them. It is read off what owning a value tells.
-- Assumes nothing.
use Prim.Native.Nat.{ℕ, ◌<◌, ◌^◌}
use mathlib.Core.Path.{◌≡◌}
use mathlib.Core.List.Memᴰ
use mathlib.Core.List.{List, [], ◌∷◌, Memᴰ}
use mathlib.Core.Logic.{⊎_elim}
use base.Fml.{Fml}
use denote.Array.{each}
use denote.Builtin
use denote.Laws.{Is}
use denote.Shadow.{shadow}
use lib.ListN.{length}
use mir.Val.{Val}
use Rattle.topology_types.specs.declared.Link.{Link}
use Rattle.topology_types.specs.declared.Topology.{Topology}
use Rattle.topology_types.specs.contracts.Link as Link'
use Rattle.topology_types.specs.contracts.Topology.{the_row}

-- what is told of each element of an array
each_told : {D : Type 0} (f : D → List Val → Fml) (xs : List D) (us : List Val) →
    shadow (each D f xs us) → (x : D) → Memᴰ x xs → (u : Val) × shadow (f x (u ∷ []))
each_told f [] us told x m = absurd (Memᴰ.not-nil m)
each_told f (y ∷ ys) [] told x m = absurd told
each_told f (y ∷ ys) (u ∷ us) told x m =
    ⊎_elim (λ e. rw e (u, told.0)) (λ n. each_told f ys us told.1 x n) (Memᴰ.cases_cons m)

pub ids_length : (t : Topology) (vs : List Val) → Is the_row t vs → length t.id ≡ 64
ids_length t vs p = p.1.1.1.1.1.0.1.0.1

pub links-length : (t : Topology) (vs : List Val) → Is the_row t vs → length t.link ≡ 256
links-length t vs p = p.1.1.1.1.1.1.0.1.0.1

pub id_fits : (t : Topology) (vs : List Val) → Is the_row t vs → (i : ℕ) → Memᴰ i t.id → i < 2 ^ 32
id_fits t vs p i m = (each_told (Builtin.u32).own_val t.id _ p.1.1.1.1.1.0.1.1 i m).1.1

pub cost_fits : (t : Topology) (vs : List Val) → Is the_row t vs → (l : Link) → Memᴰ l t.link → l.cost < 2 ^ 16
cost_fits t vs p l m = (each_told (Link'.the_row).own_val t.link _ p.1.1.1.1.1.1.0.1.1 l m).1.1.1.1.1.0.1

pub back_fits : (t : Topology) (vs : List Val) → Is the_row t vs → (l : Link) → Memᴰ l t.link → l.back < 2 ^ 16
back_fits t vs p l m = (each_told (Link'.the_row).own_val t.link _ p.1.1.1.1.1.1.0.1.1 l m).1.1.1.1.1.1.0.1
