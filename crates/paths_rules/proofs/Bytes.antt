-- A path of at most 64 places has 64 bytes, and in records of one width each stands behind those before it.
-- Assumes nothing.
use Prim.Native.Nat.{ℕ, zero, suc, ◌+◌, ◌*◌, ◌-◌, ◌≤◌, ◌<◌}
use mathlib.Core.List.{List, [], ◌∷◌, Memᴰ}
use mathlib.Core.Path.{◌≡◌, refl, ◌∙◌}
use native.Mathlib.Nat.{mul-suc}
use native.Mathlib.Omega.{arith}
use lib.Dec.{T}
use lib.ListN.{length, get_or, replicate, length-append, length-replicate, get_or-replicate, get_or-append}
use lib.Seq.{get_or-append-add}
use Rattle.topology_types.specs.declared.Topology.{Topology}
use Rattle.topology_types.specs.Topology.{padded}
use Rattle.topology_types.specs.Outcome.{answer}
use Rattle.topology_sound.specs.Sound.{sound}
use Rattle.topology_sound.proofs.Sound.{sound_exact}
use Rattle.topology.specs.Written.{joined_over}
use Rattle.order.proofs.Ranges.{get_d_mem}
use Rattle.table.specs.Calls.{table_checking}
use Rattle.paths_rules.specs.Calls.{paths_of, path_bytes, paths_bytes}
use Rattle.paths_rules.proofs.Right.{paths_exact}

module _ (path : List ℕ) where
  path_long : length path ≤ 64 → length (path_bytes path) ≡ 64
  unfolding path_bytes padded
  path_long short = simp (length-append, length-replicate) (omega arith)

  path_place : (j : ℕ) → j < length path → get_or (path_bytes path) j 0 ≡ get_or path j 0
  unfolding path_bytes padded
  path_place j h = get_or-append path _ 0 j h

  path_padding : (j : ℕ) → length path ≤ j → j < 64 → get_or (path_bytes path) j 0 ≡ 255
  unfolding path_bytes padded
  path_padding j past h =
      let behind : j ≡ length path + (j - length path) = omega arith in
      rw (behind, get_or-append-add path (replicate (64 - length path) 255) (j - length path) 0)
      (get_or-replicate (64 - length path) (j - length path) 255 0 (omega arith))

module _ {A : Type 0} (f : A → List ℕ) (width : ℕ) where
  joined_long : (xs : List A) → ((x : A) → Memᴰ x xs → length (f x) ≡ width) → length (joined_over f xs) ≡ width * length xs
  unfolding joined_over
  joined_long [] wide = omega arith
  joined_long (x ∷ xs) wide =
      let rest = joined_long xs (λ y m. wide y (Memᴰ.tail m)) in
      omega (arith, length-append (f x) (joined_over f xs), wide x (Memᴰ.head refl), mul-suc width (length xs))

  joined_at : (xs : List A) → ((x : A) → Memᴰ x xs → length (f x) ≡ width) → (z : A) (i j : ℕ) → i < length xs → j < width →
      get_or (joined_over f xs) (width * i + j) 0 ≡ get_or (f (get_or xs i z)) j 0
  unfolding joined_over
  joined_at [] wide z i j h k = absurd (omega arith)
  joined_at (x ∷ xs) wide z zero j h k =
      let first : width * 0 + j ≡ j = omega arith in
      rw first (get_or-append (f x) (joined_over f xs) 0 j (omega (arith, wide x (Memᴰ.head refl))))
  joined_at (x ∷ xs) wide z (suc i) j h k =
      let behind : width * suc i + j ≡ length (f x) + (width * i + j) = omega (arith, mul-suc width i, wide x (Memᴰ.head refl)) in
      rw (behind, get_or-append-add (f x) (joined_over f xs) (width * i + j) 0) (joined_at xs (λ y m. wide y (Memᴰ.tail m)) z i j (omega arith) k)

-- the bytes of all paths over an accepted table
module _ (t : Topology) (good : T (sound t)) (table : List ℕ) (right : table_checking t table ≡ answer 0 0) (u : ℕ) (place : u < t.routers) where
  each_wide : (p : List ℕ) → Memᴰ p (paths_of t table u) → length (path_bytes p) ≡ 64
  each_wide p m = path_long p (omega (arith, ((paths_exact t good table right u place).in_network p m).0, ((sound_exact t).0 good).routers_most))

  pub bytes_long : length (paths_bytes t table u) ≡ 64 * length (paths_of t table u)
  unfolding paths_bytes
  bytes_long = joined_long path_bytes 64 (paths_of t table u) each_wide

  module _ (i : ℕ) (inside : i < length (paths_of t table u)) where
    abbrev path : List ℕ
    path = get_or (paths_of t table u) i []

    pub path_short : length path ≤ 64
    path_short =
        omega (
          arith,
          ((paths_exact t good table right u place).in_network path (get_d_mem (paths_of t table u) i [] inside)).0,
          ((sound_exact t).0 good).routers_most,
        )

    byte_at : (j : ℕ) → j < 64 → get_or (paths_bytes t table u) (64 * i + j) 0 ≡ get_or (path_bytes path) j 0
    unfolding paths_bytes
    byte_at j h = joined_at path_bytes 64 (paths_of t table u) each_wide [] i j inside h

    pub byte_place : (j : ℕ) → j < length path → get_or (paths_bytes t table u) (64 * i + j) 0 ≡ get_or path j 0
    byte_place j h = byte_at j (omega (arith, path_short)) ∙ path_place path j h

    pub byte_padding : (j : ℕ) → length path ≤ j → j < 64 → get_or (paths_bytes t table u) (64 * i + j) 0 ≡ 255
    byte_padding j past h = byte_at j h ∙ path_padding path j past h
