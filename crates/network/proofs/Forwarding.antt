-- Each hop goes down one entry and so takes at least 1 from the station's figure; a way down the rows that attains the figure can be walked.
-- Assumes nothing.
use Prim.Native.Nat.{ℕ, zero, suc, ◌+◌, ◌-◌, ◌≤◌, ◌<◌}
use mathlib.Core.Bool.{Bool, true, false}
use mathlib.Core.List.Memᴰ
use mathlib.Core.List.{List, [], ◌∷◌, ◌++◌, Memᴰ}
use mathlib.Core.List.{map}
use mathlib.Core.Logic.{⊎_elim}
use mathlib.Core.Option.{Option, none, some}
use mathlib.Core.Path.{◌≡◌, refl, sym, ◌∙◌, ap, subst}
use native.Mathlib.Numerals.{add-one}
use native.Mathlib.Omega.{arith}
use lib.ListN.{length, drop, replicate, length-append, length-replicate}
use lib.Seq.{drop-drop}
use Rattle.network.specs.Lists.{greatest_by, Pairwise, nothing, then}
use Rattle.network.specs.Forwarding.{Forwarding, Packet, Hop, moved, Walk, packet_of, hop, walk_on, walk, start, route_on, route, longest}
use Rattle.network.specs.Theorems.Forwarding.{Lawful, Ended, at_home, nothing_live, no_entry, Exact, WalksExact, WalksFinish, NeverLoops}
use Rattle.network.proofs.Tests.{truth}
use Rattle.network.proofs.Lists.{empty}
use Rattle.network.proofs.Hops.{Hopped, stays_home, stuck, went, hopped, stays, walks_by_hops}
use Rattle.network.proofs.Greatest.{at_most_greatest, greatest_attained, greatest_same}

-- Under the rows of states xs, all of them valid, each hop from s goes down one entry.
pub data Way (f : Forwarding) (valid : f.States → Type 0) : f.State → List f.States → Type 0 where
  stop : {s : f.State} → Way f valid s []
  down : {s : f.State} {x : f.States} {xs : List f.States} (e : f.Entry) →
      valid x → f.choose x s ≡ some e → Way f valid (f.next e) xs → Way f valid s (x ∷ xs)

all_valid : {f : Forwarding} {valid : f.States → Type 0} {s : f.State} {xs : List f.States} → Way f valid s xs →
    (x : f.States) → Memᴰ x xs → valid x
all_valid stop x m = absurd (Memᴰ.not-nil m)
all_valid (down e v c w) x (Memᴰ.head h) = rw h v
all_valid (down e v c w) x (Memᴰ.tail m) = all_valid w x m

pub mem_replicate : {A : Type 0} {a x : A} (n : ℕ) → Memᴰ x (replicate n a) → x ≡ a
mem_replicate zero m = absurd (Memᴰ.not-nil m)
mem_replicate (suc n) (Memᴰ.head e) = e
mem_replicate (suc n) (Memᴰ.tail m) = mem_replicate n m

-- a walk from p takes no hop back, and makes at most as many more as the figure of the station
abbrev Within : (f : Forwarding) → ℕ → Packet f.State → Walk f.State → Type 0
Within f left p w = (p.hops ≤ (packet_of w).hops) × ((packet_of w).hops ≤ p.hops + longest f left p.station)

module _ (f : Forwarding) (rank : f.State → ℕ) (valid : f.States → Type 0) (law : Lawful f rank valid) where
  -- the figure does not depend on `left` once that is at least the rank: below an entry the same holds, and a station of rank 0 has no entries
  pub settled : (left : ℕ) (s : f.State) → rank s ≤ left → longest f (suc left) s ≡ longest f left s
  unfolding longest greatest_by
  settled zero s r = rw (empty (f.row s) (λ e m. omega (arith, law.falls s e m)))
  settled (suc left) s r = greatest_same _ _ (f.row s) (λ e m. ap suc (settled left (f.next e) (omega (arith, law.falls s e m))))

  -- down an entry the figure falls
  pub lower : (left : ℕ) (s : f.State) (e : f.Entry) → rank s ≤ left → Memᴰ e (f.row s) → longest f left (f.next e) < longest f left s
  unfolding longest
  lower left s e r m = rw (← settled left s r) (at_most_greatest (λ y. suc (longest f left (f.next y))) m)

  -- some way attains the figure: down the entry that is greatest, and on from there
  pub longest_way : (left : ℕ) (s : f.State) → rank s ≤ left → (xs : List f.States) × Way f valid s xs × (length xs ≡ longest f left s)
  unfolding longest
  longest_way zero s r = ([], stop, refl)
  longest_way (suc left) s r = ⊎_elim
      (λ empty. ([], stop, sym empty.1))
      (λ top.
      let pick = law.choosable s top.0 top.1 in
      let rest = longest_way left (f.next top.0) (omega (arith, law.falls s top.0 top.1)) in
      (pick.0 ∷ rest.0, down top.0 pick.1 pick.2 rest.1, ap suc rest.2 ∙ sym top.2))
      (greatest_attained (λ e. suc (longest f left (f.next e))) (f.row s))

  -- a way is no longer than the rank
  pub way_falls : {s : f.State} {xs : List f.States} → Way f valid s xs → length xs ≤ rank s
  way_falls stop = omega arith
  way_falls (down e v c w) = let below = way_falls w in omega (arith, law.falls _ e (law.chosen _ _ e c))

  -- where an entry is chosen the hop goes down it
  pub hop_down : (x : f.States) (p : Packet f.State) (e : f.Entry) → f.choose x p.station ≡ some e →
      hop f x p ≡ moved (record { station = f.next e; hops = suc p.hops })
  hop_down x p e c = go (hopped f x p)
    where
      go : {o : Hop f.State} → Hopped f x p o → o ≡ moved (record { station = f.next e; hops = suc p.hops })
      go (stays_home h) = absurd (Memᴰ.not-nil (rw (law.home_row p.station h) at (law.chosen x p.station e c)))
      go (stuck h d) = cc
      go (went o y d) = cc

  within : (left : ℕ) (xs : List f.States) (p : Packet f.State) → rank p.station ≤ left → Within f left p (walk f xs p)
  unfolding walk walk_on packet_of
  within left [] p r = rw (stays p (f.home p.station) (f.row p.station)) (omega arith)
  within left (x ∷ xs) p r = go (hopped f x p) (λ q. within left xs q)
    where
      go : {o : Hop f.State} → Hopped f x p o →
          ((q : Packet f.State) → rank q.station ≤ left → Within f left q (walk f xs q)) → Within f left p (walk_on p o (walk f xs))
      go (stays_home h) rest = omega arith
      go (stuck h d) rest = omega arith
      go (went o e c) rest =
          let m = law.chosen x p.station e c in
          let below = rest (record { station = f.next e; hops = suc p.hops }) (omega (arith, law.falls _ e m)) in
          omega (arith, lower left _ e r m)

  -- a walk goes all of a way, whatever rows follow
  over_way : {s : f.State} {xs : List f.States} → Way f valid s xs → (ys : List f.States) (h : ℕ) →
      h + length xs ≤ (packet_of (walk f (xs ++ ys) (record { station = s; hops = h }))).hops
  unfolding walk walk_on
  over_way {s} stop ys h = omega (arith, within (rank s) ys (record { station = s; hops = h }) (omega arith))
  over_way {s} (down e v c w) ys h = rw (hop_down _ (record { station = s; hops = h }) e c) (omega (arith, over_way w ys (suc h)))

  -- A walk over zs from s that has come to the packet p, with xs left of zs, ends if xs has at least as many rows as the rank.
  ending : (zs : List f.States) (s : f.State) (xs : List f.States) (p : Packet f.State) →
      walk f zs (start s) ≡ walk f xs p → drop p.hops zs ≡ xs → rank p.station ≤ length xs → Ended f rank zs s
  unfolding walk walk_on
  ending zs s [] p same left r =
      ⊎_elim (λ home. at_home p (same ∙ (walks_by_hops f law.some_valid.0 [] p).arrives home) home)
      (λ off. no_entry p (same ∙ (walks_by_hops f law.some_valid.0 [] p).drops_out off none_there) off left none_there (omega arith))
      (truth (f.home p.station))
    where
      none_there : f.row p.station ≡ []
      none_there = empty (f.row p.station) (λ e m. omega (arith, law.falls p.station e m))
  ending zs s (x ∷ xs) p same left r = go (hopped f x p) same (λ q. ending zs s xs q)
    where
      go : {o : Hop f.State} → Hopped f x p o → walk f zs (start s) ≡ walk_on p o (walk f xs) →
          ((q : Packet f.State) → walk f zs (start s) ≡ walk f xs q → drop q.hops zs ≡ xs → rank q.station ≤ length xs → Ended f rank zs s) →
          Ended f rank zs s
      go (stays_home h) e rest = at_home p e h
      go (stuck h d) e rest = nothing_live p e h x xs left d
      go (went o y c) e rest =
          rest _ e (subst (λ (n : ℕ). drop n zs ≡ xs) (add-one p.hops) (sym (drop-drop 1 p.hops zs) ∙ ap (drop 1) left))
          (omega (arith, law.falls _ y (law.chosen _ _ y c)))

  exact : (left : ℕ) (s : f.State) → rank s ≤ left → Exact f rank valid s (longest f left s)
  unfolding start
  exact left s r =
      record {
        never_passed = λ xs. omega (arith, within left xs (start s) r);
        reached = λ rows enough.
            let more = rows - length way.0 in
            let xs = way.0 ++ replicate more law.some_valid.0 in (
              xs,
              simp (length-append, length-replicate) (omega (arith, way_falls way.1)),
              λ x m. ⊎_elim (all_valid way.1 x) (λ n. subst valid (sym (mem_replicate more n)) law.some_valid.1) (Memᴰ.append_cases way.0 m),
              omega (arith, way.2, within left xs (start s) r, over_way way.1 (replicate more law.some_valid.0) 0),
            );
        at_most_rank = omega (arith, way.2, way_falls way.1);
      }
    where
      way : (xs : List f.States) × Way f valid s xs × (length xs ≡ longest f left s)
      way = longest_way left s r

pub walks_exact : WalksExact
walks_exact = exact

pub walks_finish : WalksFinish
unfolding start
walks_finish f rank valid law xs s = ending f rank valid law xs s xs (start s) refl refl

-- ranks fall down an entry, and on from there
pub never_loops : NeverLoops
unfolding route route_on
never_loops f rank valid law [] s = then (λ t m. absurd (Memᴰ.not-nil m)) nothing
never_loops f rank valid law (x ∷ xs) s = go (f.home s) (f.choose x s) refl (never_loops f rank valid law xs)
  where
    Falls : f.State → f.State → Type 0
    Falls earlier later = rank later < rank earlier

    at_most : {t : f.State} {ys : List f.State} → Pairwise Falls (t ∷ ys) → (y : f.State) → Memᴰ y (t ∷ ys) → rank y ≤ rank t
    at_most (then h p) y m = ⊎_elim (λ e. omega (arith, ap rank e)) (λ k. omega (arith, h y k)) (Memᴰ.cases_cons m)

    go : (b : Bool) (c : Option f.Entry) → f.choose x s ≡ c → ((t : f.State) → Pairwise Falls (t ∷ map f.next (route f xs t))) →
        Pairwise Falls (s ∷ map f.next (route_on f b c (route f xs)))
    go true c e rest = then (λ t m. absurd (Memᴰ.not-nil m)) nothing
    go false none e rest = then (λ t m. absurd (Memᴰ.not-nil m)) nothing
    go false (some y) e rest =
        let down = law.falls s y (law.chosen x s y e) in
        then {x = s} (λ t m. let low : rank t ≤ rank (f.next y) = at_most (rest (f.next y)) t m in omega arith) (rest (f.next y))
