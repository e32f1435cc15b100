-- A walk goes down one entry a hop until it is delivered, and so along a path; along a path each entry is chosen under some valid states.
-- Assumes nothing.
use Prim.Native.Nat.{ℕ, zero, suc, ◌≤◌}
use mathlib.Core.Bool.{Bool, true, false}
use mathlib.Core.List.Memᴰ
use mathlib.Core.List.{List, [], ◌∷◌, Memᴰ, map}
use mathlib.Core.Logic.{⊎_elim}
use mathlib.Core.Option.{Option, none, some}
use mathlib.Core.Path.{◌≡◌, refl, ◌∙◌, ap}
use native.Mathlib.Omega.{arith}
use lib.Dec.{T}
use lib.ListN.{length, replicate, length-replicate}
use Rattle.network.specs.Forwarding.{Forwarding, Packet, delivered_at, hop_to, hop, walk_on, walk_end, walk, start, route_on, route}
use Rattle.network.specs.Theorems.Forwarding.{Lawful}
use Rattle.network.specs.Theorems.Paths.{visited, PathsWalked}
use Rattle.network.proofs.Tests.{as_true, as_false}
use Rattle.network.proofs.Hops.{clash, walks_by_hops}
use Rattle.network.proofs.Forwarding.{mem_replicate, hop_down}
use Rattle.network.proofs.Paths.{Down, ended, onward, mem_down, off_home, down_mem}

-- a walk from home is delivered there, and goes nowhere
home_walk : (f : Forwarding) (xs : List f.States) (p : Packet f.State) → T (f.home p.station) →
    (walk f xs p ≡ delivered_at p) × (visited f xs p.station ≡ p.station ∷ [])
unfolding walk walk_end walk_on hop hop_to route route_on
home_walk f [] p h = (rw (as_true (f.home p.station) h), refl)
home_walk f (x ∷ xs) p h = (rw (as_true (f.home p.station) h), rw (as_true (f.home p.station) h))

module _ (f : Forwarding) (rank : f.State → ℕ) (valid : f.States → Type 0) (law : Lawful f rank valid) where
  walked : (xs : List f.States) (p q : Packet f.State) → walk f xs p ≡ delivered_at q → Down f p.station (visited f xs p.station)
  unfolding walk walk_end walk_on hop hop_to route route_on
  walked [] p q w = ended (go (f.home p.station) (f.row p.station) w)
    where
      go : (b : Bool) (es : List f.Entry) → walk_end p b es ≡ delivered_at q → T b
      go true es e = tt
      go false [] e = clash (cc)
      go false (y ∷ es) e = clash (cc)
  walked (x ∷ xs) p q w = go (f.home p.station) refl (f.choose x p.station) refl w (λ r. walked xs r q)
    where
      go : (b : Bool) → f.home p.station ≡ b → (c : Option f.Entry) → f.choose x p.station ≡ c →
          walk_on p (hop_to f p b c) (walk f xs) ≡ delivered_at q →
          ((r : Packet f.State) → walk f xs r ≡ delivered_at q → Down f r.station (visited f xs r.station)) →
          Down f p.station (p.station ∷ map f.next (route_on f b c (route f xs)))
      go true h c k e on = ended {s = p.station} (rw h tt)
      go false h none k e on = clash (cc)
      go false h (some y) k e on = onward y (law.chosen x p.station y k) (on _ e)

  -- a walk of so many valid rows from s, with so many hops made before, that is delivered after going along p
  Along : f.State → List f.State → ℕ → ℕ → Type 0
  Along s p rows hops =
      (xs : List f.States) × (length xs ≡ rows) × ((x : f.States) → Memᴰ x xs → valid x)
      × ((q : Packet f.State) × (walk f xs (record { station = s; hops = hops }) ≡ delivered_at q)) × (visited f xs s ≡ p)

  along : {s : f.State} {p : List f.State} → Down f s p → (rows hops : ℕ) → rank s ≤ rows → Along s p rows hops
  unfolding Along route route_on
  along {s} (ended h) rows hops r =
      let xs = replicate rows law.some_valid.0 in
      let (w, v) = home_walk f xs (record { station = s; hops = hops }) h in
      (xs, length-replicate _ _, λ x m. rw (mem_replicate rows m) law.some_valid.1, (record { station = s; hops = hops }, w), v)
  along {s} (onward e m d) zero hops r = absurd (omega (arith, law.falls s e m))
  along {s} (onward e m d) (suc rows) hops r =
      let (x, ok, c) = law.choosable s e m in
      let p : Packet f.State = record { station = s; hops = hops } in
      let (xs, long, all, (q, w), v) = along d rows (suc hops) (omega (arith, law.falls s e m)) in (
        x ∷ xs,
        ap suc long,
        λ y k. ⊎_elim (λ same. rw same ok) (all y) (Memᴰ.cases_cons k),
        (q, (walks_by_hops f x xs p).goes_on _ (hop_down f rank valid law x p e c) ∙ w),
        rw (as_false (f.home s) (off_home f rank valid law m), c) (ap (λ (l : List f.State). s ∷ l) v),
      )

pub paths_walked : PathsWalked
unfolding start Along
paths_walked f rank valid law left s r =
    record {
      each_walk = λ xs q w. down_mem f rank valid law (walked f rank valid law xs (start s) q w) left r;
      each_path = λ p m rows enough. along f rank valid law (mem_down f left s m) rows 0 enough;
    }
