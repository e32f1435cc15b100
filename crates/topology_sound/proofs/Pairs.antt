-- A table of the pairs of places that are linked so far: the pair of a and b stands at a * 64 + b, and a link more is stored in both orders.
-- Assumes nothing.
use Prim.Native.Nat.{ℕ, ◌+◌, ◌*◌, ◌<◌}
use mathlib.Core.Bool.{Bool, true, false, or-true, or-false}
use mathlib.Core.List.{List, [], ◌∷◌, ◌++◌}
use mathlib.Core.Logic.{◌⊎◌, inl, inr}
use mathlib.Core.Path.{◌≡◌, ◌∙◌}
use native.Mathlib.Omega.{arith}
use lib.Dec.{T, eqb, eqb→eq}
use lib.ListN.{length, get_or, set, replicate, length-set, length-replicate, get_or-replicate}
use lib.Seq.{get_or-set_same, get_or-set_other}
use Rattle.network.specs.Lists.{any}
use Rattle.network.specs.Network.{Link, same_pair}
use Rattle.network.specs.Theorems.Network.{SamePair}
use Rattle.network.proofs.Tests.{truth, as_true, as_false, eq_test}
use Rattle.network.proofs.SoundLinks.{pair_fact}
use Rattle.topology_types.proofs.Prefix.{any_more}

pub record Tabled (table : List Bool) (ls : List Link) : Type 0 where
  pub long : length table ≡ 4096
  pub at : (k : Link) → k.first < 64 → k.second < 64 → get_or table (k.first * 64 + k.second) false ≡ any (same_pair k) ls

pub tabled_none : Tabled (replicate 4096 false) []
tabled_none = record {
  long = length-replicate 4096 false;
  at = λ k hf hs. get_or-replicate 4096 (k.first * 64 + k.second) false false (omega arith);
}

-- what is true stays true
still : (table : List Bool) (i j : ℕ) → j < length table → get_or table j false ≡ true → get_or (set table i true) j false ≡ true
still table i j h e = step (truth (eqb j i))
  where
    step : T (eqb j i) ⊎ (T (eqb j i) → ⊥) → get_or (set table i true) j false ≡ true
    step (inl t) = let q = eqb→eq j i t in rw (← q) (get_or-set_same table j true false h)
    step (inr o) = get_or-set_other table i j true false (λ q. o (eq_test q)) ∙ e

-- the pair of a link stored, in both orders
abbrev once : List Bool → Link → List Bool
once table l = set table (l.first * 64 + l.second) true

abbrev twice : List Bool → Link → List Bool
twice table l = set (set table (l.first * 64 + l.second) true) (l.second * 64 + l.first) true

module _ {table : List Bool} {ls : List Link} (w : Tabled table ls) (l : Link) (hf : l.first < 64) (hs : l.second < 64) where
  once_long : length (once table l) ≡ 4096
  once_long = length-set table (l.first * 64 + l.second) true ∙ w.long

  stored : (k : Link) → SamePair k l → get_or (twice table l) (k.first * 64 + k.second) false ≡ true
  stored k (inl (e, e')) =
      rw (e, e')
      (still (once table l) (l.second * 64 + l.first) (l.first * 64 + l.second) (omega (arith, once_long))
      (get_or-set_same table (l.first * 64 + l.second) true false (omega (arith, w.long))))
  stored k (inr (e, e')) = rw (e, e') (get_or-set_same (once table l) (l.second * 64 + l.first) true false (omega (arith, once_long)))

  module _ (k : Link) (gf : k.first < 64) (gs : k.second < 64) where
    kept : (SamePair k l → ⊥) → get_or (twice table l) (k.first * 64 + k.second) false ≡ get_or table (k.first * 64 + k.second) false
    kept o =
        get_or-set_other (once table l) (l.second * 64 + l.first) (k.first * 64 + k.second) true false (λ q. o (inr (omega arith, omega arith)))
        ∙ get_or-set_other table (l.first * 64 + l.second) (k.first * 64 + k.second) true false (λ q. o (inl (omega arith, omega arith)))

    step : T (same_pair k l) ⊎ (T (same_pair k l) → ⊥) → get_or (twice table l) (k.first * 64 + k.second) false ≡ any (same_pair k) (ls ++ (l ∷ []))
    step (inl t) = rw (any_more (same_pair k) ls l, as_true (same_pair k l) t, or-true) (stored k ((pair_fact k l).0 t))
    step (inr o) =
        rw (any_more (same_pair k) ls l, as_false (same_pair k l) o, or-false) (kept (λ p. o ((pair_fact k l).1 p)) ∙ w.at k gf gs)

  pub tabled_more : {a b : ℕ} → a ≡ l.first → b ≡ l.second → Tabled (set (set table (a * 64 + b) true) (b * 64 + a) true) (ls ++ (l ∷ []))
  tabled_more e e' =
      rw (e, e')
      record {
        long = length-set (once table l) (l.second * 64 + l.first) true ∙ once_long;
        at = λ k gf gs. step k gf gs (truth (same_pair k l));
      }
