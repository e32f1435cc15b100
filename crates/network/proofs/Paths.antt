-- A path in the list and a path down the rows are both the destination alone, or a station and a path on from an entry of its row.
-- Assumes nothing.
use Prim.Native.Nat.{ℕ, zero, suc, ◌≤◌}
use mathlib.Core.Bool.{Bool, true, false}
use mathlib.Core.List.Memᴰ
use mathlib.Core.List.{List, [], ◌∷◌, ◌++◌, Memᴰ}
use mathlib.Core.List.{tail-eq_of_cons-eq, head-eq_of_cons-eq, map}
use mathlib.Core.Logic.{⊎_elim}
use mathlib.Core.Path.{◌≡◌, refl, sym, ◌∙◌, ap, ap₂}
use native.Mathlib.Omega.{arith}
use lib.Dec.{T}
use lib.ListN.{length, length-append}
use Rattle.network.specs.Forwarding.{Forwarding}
use Rattle.network.specs.Paths.{paths_at, through_each, paths_from, paths_through}
use Rattle.network.specs.Theorems.Forwarding.{Lawful}
use Rattle.network.specs.Theorems.Paths.{PathsByRule, PathDown, PathsExact}
use Rattle.network.proofs.Tests.{as_true, as_false}
use Rattle.network.proofs.Lists.{empty}

-- a path down the rows, step by step
pub data Down (f : Forwarding) : f.State → List f.State → Type 0 where
  ended : {s : f.State} → T (f.home s) → Down f s (s ∷ [])
  onward : {s : f.State} {p : List f.State} (e : f.Entry) → Memᴰ e (f.row s) → Down f (f.next e) p → Down f s (s ∷ p)

-- by whether the station is home: a path in its list is itself alone, or goes on from an entry of its row
listed : {f : Forwarding} (s : f.State) (b : Bool) → f.home s ≡ b → (ps : List (List f.State)) →
    ((q : List f.State) → Memᴰ q ps → Down f s (s ∷ q)) → {p : List f.State} → Memᴰ p (paths_at s b ps) → Down f s p
unfolding paths_at
listed {f} s true h ps on m = rw (Memᴰ.eq_of_singleton m) (ended {s = s} (rw h tt))
listed {f} s false h ps on m = let (q, k, e) = Memᴰ.of_map (λ p. s ∷ p) ps m in rw (← e) (on q k)

module _ (f : Forwarding) where
  -- a path through entries is one from the station that some of them names
  pub of_through : (from : f.State → List (List f.State)) (es : List f.Entry) {p : List f.State} → Memᴰ p (through_each f from es) →
      (e : f.Entry) × Memᴰ e es × Memᴰ p (from (f.next e))
  unfolding through_each
  of_through from [] m = absurd (Memᴰ.not-nil m)
  of_through from (e ∷ es) m =
      ⊎_elim (λ k. (e, Memᴰ.head refl, k)) (λ k. let (y, l, r) = of_through from es k in (y, Memᴰ.tail l, r))
      (Memᴰ.append_cases (from (f.next e)) m)

  pub through_mem : (from : f.State → List (List f.State)) {e : f.Entry} {es : List f.Entry} {p : List f.State} → Memᴰ e es →
      Memᴰ p (from (f.next e)) → Memᴰ p (through_each f from es)
  unfolding through_each
  through_mem from (Memᴰ.head {xs} h) m = Memᴰ.append_left (through_each f from xs) (rw h at m)
  through_mem from (Memᴰ.tail {x} l) m = Memᴰ.append_right (from (f.next x)) (through_mem from l m)

  -- it depends on `from` only at the stations that the entries name
  through_same : (from to : f.State → List (List f.State)) (es : List f.Entry) →
      ((e : f.Entry) → Memᴰ e es → from (f.next e) ≡ to (f.next e)) → through_each f from es ≡ through_each f to es
  unfolding through_each
  through_same from to [] same = refl
  through_same from to (e ∷ es) same = ap₂ ◌++◌ (same e (Memᴰ.head refl)) (through_same from to es (λ y m. same y (Memᴰ.tail m)))

  pub at_home : (left : ℕ) (s : f.State) → T (f.home s) → paths_from f left s ≡ (s ∷ []) ∷ []
  unfolding paths_from paths_at
  at_home zero s h = rw (as_true (f.home s) h)
  at_home (suc left) s h = rw (as_true (f.home s) h)

  pub elsewhere : (left : ℕ) (s : f.State) → (T (f.home s) → ⊥) →
      paths_from f (suc left) s ≡ map (λ p. s ∷ p) (through_each f (paths_from f left) (f.row s))
  unfolding paths_from paths_at
  elsewhere left s off = rw (as_false (f.home s) off)

  -- what stands in the list is a path down the rows
  pub mem_down : (left : ℕ) (s : f.State) {p : List f.State} → Memᴰ p (paths_from f left s) → Down f s p
  unfolding paths_from
  mem_down zero s m = listed s (f.home s) refl [] (λ q k. absurd (Memᴰ.not-nil k)) m
  mem_down (suc left) s m =
      listed s (f.home s) refl (through_each f (paths_from f left) (f.row s))
      (λ q k. let (e, l, r) = of_through (paths_from f left) (f.row s) k in onward e l (mem_down left (f.next e) r)) m

  module _ (rank : f.State → ℕ) (valid : f.States → Type 0) (law : Lawful f rank valid) where
    -- a station with an entry in its row is not home
    pub off_home : {s : f.State} {e : f.Entry} → Memᴰ e (f.row s) → T (f.home s) → ⊥
    off_home {s} m h = Memᴰ.not-nil (rw (law.home_row s h) at m)

    pub down_mem : {s : f.State} {p : List f.State} → Down f s p → (left : ℕ) → rank s ≤ left → Memᴰ p (paths_from f left s)
    down_mem {s} (ended h) left r = rw (at_home left s h) (Memᴰ.head refl)
    down_mem {s} (onward e m d) zero r = absurd (omega (arith, law.falls s e m))
    down_mem {s} (onward e m d) (suc left) r =
        rw (elsewhere left s (off_home m))
        (Memᴰ.map (λ p. s ∷ p) (through_mem (paths_from f left) m (down_mem d left (omega (arith, law.falls s e m)))))

    -- the list does not depend on `left` once that is at least the rank: below an entry the same holds, and a station of rank 0 has no entries
    settled : (left : ℕ) (s : f.State) → rank s ≤ left → paths_from f (suc left) s ≡ paths_from f left s
    unfolding paths_from through_each
    settled zero s r = rw (empty (f.row s) (λ e m. omega (arith, law.falls s e m)))
    settled (suc left) s r =
        ap (paths_at s (f.home s)) (through_same (paths_from f (suc left)) (paths_from f left) (f.row s) (λ e m. settled left (f.next e) (omega (arith, law.falls s e m))))

-- a path down the rows starts at s
pub first : {f : Forwarding} {s : f.State} {p : List f.State} → Down f s p → (rest : List f.State) × (p ≡ s ∷ rest)
first (ended h) = ([], refl)
first (onward {p} e m d) = (p, refl)

steps : {f : Forwarding} {s : f.State} {p : List f.State} → Down f s p → (before : List f.State) (u v : f.State) (after : List f.State) →
    p ≡ before ++ (u ∷ v ∷ after) → (e : f.Entry) × Memᴰ e (f.row u) × (f.next e ≡ v)
steps (ended h) before u v after q = absurd (omega (arith, simp length-append at (ap length q)))
steps (onward e m d) [] u v after q = (e, rw (head-eq_of_cons-eq q) at m, head-eq_of_cons-eq (sym (first d).1 ∙ tail-eq_of_cons-eq q))
steps (onward e m d) (b ∷ before) u v after q = steps d before u v after (tail-eq_of_cons-eq q)

ends : {f : Forwarding} {s : f.State} {p : List f.State} → Down f s p →
    (before : List f.State) × (t : f.State) × (p ≡ before ++ (t ∷ [])) × T (f.home t)
ends (ended {s} h) = ([], s, refl, h)
ends (onward {s} e m d) = let (before, t, q, h) = ends d in (s ∷ before, t, ap (λ (l : List _). s ∷ l) q, h)

-- what is left of a path down the rows when it has gone one step
rest_of : {f : Forwarding} {s v : f.State} {rest : List f.State} → PathDown f s (s ∷ v ∷ rest) → PathDown f v (v ∷ rest)
rest_of {f} {s} {v} {rest} p =
    record {
      starts = (rest, refl);
      steps = λ before u w after q. p.steps (s ∷ before) u w after (ap (λ (l : List f.State). s ∷ l) q);
      ends = go p.ends;
    }
  where
    go : (before : List f.State) × (t : f.State) × (s ∷ v ∷ rest ≡ before ++ (t ∷ [])) × T (f.home t) →
        (before : List f.State) × (t : f.State) × (v ∷ rest ≡ before ++ (t ∷ [])) × T (f.home t)
    go ([], t, q, h) = absurd (omega (arith, ap length q))
    go (b ∷ before, t, q, h) = (before, t, tail-eq_of_cons-eq q, h)

stepped : {f : Forwarding} (s : f.State) (rest : List f.State) → PathDown f s (s ∷ rest) → Down f s (s ∷ rest)
stepped {f} s [] p = ended (go p.ends)
  where
    go : (before : List f.State) × (t : f.State) × (s ∷ [] ≡ before ++ (t ∷ [])) × T (f.home t) → T (f.home s)
    go ([], t, q, h) = rw (head-eq_of_cons-eq q) h
    go (b ∷ before, t, q, h) = absurd (omega (arith, simp length-append at (ap length q)))
stepped s (v ∷ rest) p = let (e, m, q) = p.steps [] s v rest refl in onward {p = v ∷ rest} e m (rw q (stepped v rest (rest_of p)))

pub down_path : {f : Forwarding} {s : f.State} {p : List f.State} → Down f s p → PathDown f s p
down_path d = record { starts = first d; steps = steps d; ends = ends d }

pub path_down : {f : Forwarding} {s : f.State} {p : List f.State} → PathDown f s p → Down f s p
path_down {f} {s} p = let (rest, q) = p.starts in rw q (stepped s rest (rw q at p))

pub paths_exact : PathsExact
paths_exact f rank valid law left s r p =
    (λ m. down_path (mem_down f left s m), λ d. down_mem f rank valid law (path_down d) left r)

pub paths_by_rule : PathsByRule
unfolding paths_through through_each
paths_by_rule f rank valid law left s r =
    record {
      at_home = at_home f left s;
      elsewhere = λ off. sym (settled f rank valid law left s r) ∙ elsewhere f left s off;
      no_entry = refl;
      each_entry = λ e es. refl;
    }
