-- From a start the route is empty, 255 throughout, and a path put over it is its places and then 255.
-- Assumes nothing.
use Prim.Native.Nat.{ℕ, ◌*◌, ◌≤◌, ◌<◌}
use mathlib.Core.Bool.{true, false}
use mathlib.Core.List.{List, ◌++◌}
use mathlib.Core.Path.{◌≡◌, ap, ◌∙◌}
use native.Mathlib.Nat.{zero-add}
use native.Mathlib.Omega.{arith}
use borrow.Author.Tests.{lt-ltb, le-ltb}
use lib.Dec.{ltb}
use lib.ListN.{length, take, replicate, length-replicate}
use lib.Seq.{sets, sets-eq}
use Rattle.network.specs.Lists.{counted}
use Rattle.topology_types.specs.declared.Topology.{Topology}
use Rattle.topology_types.specs.Topology.{padded}
use Rattle.topology_sound.proofs.Sound.{sound_exact}
use Rattle.topology.proofs.Joined.{joined_same}
use Rattle.order.proofs.Runs.{drop_same}
use Rattle.text.proofs.Stores.{start}
use Rattle.paths_rules.specs.Calls.{paths_of, path_bytes, paths_bytes}
use Rattle.paths_rules.specs.Theorems.{Passed}
use Rattle.paths_rules.proofs.Right.{paths_exact}
use Rattle.paths.specs.Inner.{PathsGathered, PathsListed}

over_empty : (path : List ℕ) → length path ≤ 64 → sets (replicate 64 255) 0 path ≡ path_bytes path
unfolding path_bytes padded
over_empty path short =
    sets-eq path (replicate 64 255) 0 (omega (arith, length-replicate {A = ℕ} 64 255, zero-add (length path)))
    ∙ rw zero-add (ap (λ (l : List ℕ). path ++ l) (drop_same (length path) 64 255))

pub listed : {t : Topology} {table : List ℕ} {u : ℕ} → Passed t table u → {b : List ℕ} {r : ℕ} {b' : List ℕ} →
    PathsGathered (replicate 64 255) 0 b 0 (paths_of t table u) r b' → PathsListed t table u b r b'
unfolding paths_bytes
listed {t} {table} {u} on g =
    let right = paths_exact t on.is-sound table on.accepted u on.place in
    let each = joined_same (sets (replicate 64 255) 0) path_bytes (paths_of t table u)
    (λ p m. over_empty p (omega (arith, (right.in_network p m).0, ((sound_exact t).0 on.is-sound).routers_most))) in
    record { total = g.total; put = λ few. rw each at (g.put few) }

-- by how many there are
module _ {t : Topology} {table : List ℕ} {u : ℕ} {b : List ℕ} {r : ℕ} {b' : List ℕ} (l : PathsListed t table u b r b') where
  pub beyond : 512 < r → ltb 512 (length (paths_of t table u)) ≡ true
  unfolding counted
  beyond h = lt-ltb 512 (length (paths_of t table u)) (omega (arith, l.total))

  pub within : r ≤ 512 → ltb 512 (length (paths_of t table u)) ≡ false
  unfolding counted
  within h = le-ltb 512 (length (paths_of t table u)) (omega (arith, l.total))

  pub needed : r ≤ 512 → length (paths_bytes t table u) ≡ 64 * r
  needed h = omega (arith, (l.put h).after)

  pub front : r ≤ 512 → 64 * r ≤ length b → take (64 * r) b' ≡ paths_bytes t table u
  front h room = start b (paths_bytes t table u) b' (64 * r) (l.put h).stored (needed h) room
