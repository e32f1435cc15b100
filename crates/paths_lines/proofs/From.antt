-- The listing's table is accepted, so what is gathered over it is the start's paths, and the lines made of their bytes are those of the start.
-- Assumes nothing.
use Prim.Native.Nat.{ℕ, ◌*◌, ◌/◌, ◌≤◌, ◌<◌}
use mathlib.Core.Bool.{cond}
use mathlib.Core.List.{List, [], ◌∷◌, ◌++◌, Memᴰ, append-nil}
use mathlib.Core.Path.{◌≡◌}
use native.Mathlib.Decide.{dec_lt}
use native.Mathlib.Omega.{arith}
use borrow.Author.Tests.{lt-ltb, le-ltb}
use lib.Dec.{ltb}
use lib.ListN.{length, take}
use lib.Seq.{length-take-le, length-sets}
use Rattle.network.specs.Lists.{counted}
use Rattle.topology_types.specs.declared.Topology.{Topology}
use Rattle.topology_sound.proofs.Sound.{sound_exact}
use Rattle.topology.specs.Written.{joined_over}
use Rattle.order.proofs.Ranges.{get_d_mem}
use Rattle.text.proofs.Stores.{start}
use Rattle.listing_rules.proofs.InTurn.{joined_most}
use Rattle.listing_rules.proofs.Tables.{accepted}
use Rattle.paths_rules.specs.Calls.{paths_of, path_bytes, paths_bytes}
use Rattle.paths_rules.specs.Theorems.{Passed}
use Rattle.paths_rules.proofs.Right.{paths_exact}
use Rattle.paths.specs.Inner.{most_bytes, PathsListed}
use Rattle.paths.proofs.Start.{beyond, within, needed}
use Rattle.paths_lines.specs.Lines.{too_many, line_of, path_line, lines_from}
use Rattle.paths_lines.specs.Inner.{most_path_line, most_path_lines, paths_text, Paths, Toward}
use Rattle.paths_lines.proofs.Fields.{too_many_length, path_length}
use Rattle.paths_lines.proofs.Bytes.{Path, short, there, lines}

module _ {t : Topology} {table : List ℕ} {d u : ℕ} (w : Toward t table d u) where
  pub passed : Passed t table u
  passed = record { is-sound = w.good; place = w.start; accepted = rw w.listed (accepted t w.good d w.destination) }

  few_routers : t.routers ≤ 64
  few_routers = ((sound_exact t).0 w.good).routers_most

  -- two digits are enough
  pub small : (d < 100) × (u < 100)
  small = (omega (arith, few_routers, w.destination), omega (arith, few_routers, w.start))

  each : (p : List ℕ) → Memᴰ p (paths_of t table u) → Path p
  each p m =
      let (few, places) = (paths_exact t w.good table passed.accepted u w.start).in_network p m in
      record { few = omega (arith, few_routers); places = λ v k. omega (arith, few_routers, places v k) }

  pub lines_length : length (lines_from t d u) ≤ most_path_lines
  unfolding lines_from
  lines_length = rw (← w.listed) (cases (dec_lt 512 (length (paths_of t table u))))
    where
      cases : Dec (512 < length (paths_of t table u)) →
          length (cond (ltb 512 (length (paths_of t table u))) (line_of d u (too_many ∷ [])) (joined_over (path_line d u) (paths_of t table u))) ≤ most_path_lines
      cases (yes many) = rw (lt-ltb 512 (length (paths_of t table u)) many) (omega (arith, too_many_length d u))
      cases (no not) =
          let few : length (paths_of t table u) ≤ 512 = omega arith in
          rw (le-ltb 512 (length (paths_of t table u)) few)
          (omega (
            arith,
            joined_most (path_line d u) most_path_line (paths_of t table u)
                (λ p m. path_length d u small.0 small.1 p (each p m).few (short (each p m))),
          ))

  module _ {b : List ℕ} {r : ℕ} {b' : List ℕ} (l : PathsListed t table u b r b') where
    pub too-many : 512 < r → lines_from t d u ≡ line_of d u (too_many ∷ [])
    unfolding lines_from
    too-many h = rw (← w.listed, beyond l h)

    module _ (few : r ≤ 512) (room : most_bytes ≤ length b) where
      all : r ≡ length (paths_of t table u)
      unfolding counted
      all = omega (arith, l.total)

      pub long : 64 * r ≤ length b'
      long = rw ((l.put few).stored, length-sets) (omega arith)

      bytes : take (64 * r) b' ≡ joined_over path_bytes (paths_of t table u) ++ []
      unfolding paths_bytes
      bytes = rw append-nil (start b (paths_bytes t table u) b' (64 * r) (l.put few).stored (needed l few) (omega arith))

      pub gathered : Paths (take (64 * r) b')
      gathered = record {
        few = rw (length-take-le _ _ long) (omega arith);
        places = λ i h.
            let inside : i < length (paths_of t table u) = omega (arith, all, rw (length-take-le _ _ long) at h) in
            rw (there (paths_of t table u) _ bytes each i inside) (short (each _ (get_d_mem (paths_of t table u) i [] inside)));
      }

      pub are : paths_text d u (take (64 * r) b') (length (take (64 * r) b') / 64) ≡ lines_from t d u
      unfolding lines_from
      are =
          let many : length (take (64 * r) b') / 64 ≡ length (paths_of t table u) = omega (arith, length-take-le _ _ long, all) in
          rw (← w.listed, within l few, many) (lines (paths_of t table u) _ bytes each d u)
