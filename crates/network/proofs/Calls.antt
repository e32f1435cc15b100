-- Every call keeps hops made plus the station's figure at most the figure of where the packet was last set; a longest way, hop by hop, attains it.
-- Assumes nothing.
use Prim.Native.Nat.{ℕ, suc, ◌+◌, ◌≤◌}
use mathlib.Core.Bool.{Bool, true, false, cond}
use mathlib.Core.List.{List, [], ◌∷◌, ◌++◌, map}
use mathlib.Core.Option.{some}
use mathlib.Core.Logic.{⊎_elim}
use mathlib.Core.Path.{◌≡◌, refl, ◌∙◌, ap}
use native.Mathlib.Omega.{arith}
use lib.Dec.{T}
use lib.ListN.{length}
use Rattle.network.specs.Forwarding.{Forwarding, Packet, Hop, hop, start, longest}
use Rattle.network.specs.Calls.{Call, setting, hopping, Tests, after_hop, after_call, after_calls, set_by, last_set}
use Rattle.network.specs.Theorems.Forwarding.{Lawful}
use Rattle.network.specs.Theorems.Calls.{CallsByRule, CallsInTurn, Admits, CallsBounded, CallsExact}
use Rattle.network.proofs.Tests.{passes, fails}
use Rattle.network.proofs.Hops.{Hopped, stays_home, stuck, went, hopped}
use Rattle.network.proofs.Forwarding.{Way, stop, down, lower, longest_way, way_falls, hop_down}

-- hops set the packet nowhere
last_kept : (f : Forwarding) (tests : Tests f) (xs : List f.States) (s : f.State) → last_set f tests (map hopping xs) s ≡ s
unfolding last_set set_by
last_kept f tests [] s = refl
last_kept f tests (x ∷ xs) s = last_kept f tests xs s

pub calls_by_rule : CallsByRule
unfolding after_call set_by after_hop
calls_by_rule f tests p last =
    record {
      sets = λ s t. (passes (tests.start_ok s) t (start s) p, passes (tests.start_ok s) t s last);
      set_refused = λ s o. (fails (tests.start_ok s) o (start s) p, fails (tests.start_ok s) o s last);
      hop_refused = λ x o. fails (tests.hop_ok x p) o (after_hop p (hop f x p)) p;
      hops = λ x t q e. passes (tests.hop_ok x p) t (after_hop p (hop f x p)) p ∙ ap (after_hop p) e;
      stays = λ x t h. passes (tests.hop_ok x p) t (after_hop p (hop f x p)) p ∙ ⊎_elim (λ e. ap (after_hop p) e) (λ e. ap (after_hop p) e) h;
      hop_sets_nothing = λ x. refl;
    }

pub calls_in_turn : CallsInTurn
unfolding after_calls last_set
calls_in_turn f tests p first = record { no_calls = (refl, refl); one_more = λ cs c. last_call cs c p first }
  where
    last_call : (cs : List (Call f)) (c : Call f) (q : Packet f.State) (s : f.State) →
        (after_calls f tests (cs ++ (c ∷ [])) q ≡ after_call f tests c (after_calls f tests cs q))
        × (last_set f tests (cs ++ (c ∷ [])) s ≡ set_by f tests c (last_set f tests cs s))
    last_call [] c q s = (refl, refl)
    last_call (e ∷ cs) c q s = last_call cs c (after_call f tests e q) (set_by f tests e s)

-- What each call keeps of a packet last set at `last`: the tests let it start at its station, and it cannot pass the figure of `last`.
abbrev Kept : (f : Forwarding) (tests : Tests f) → ℕ → f.State → Packet f.State → Type 0
Kept f tests left last p = T (tests.start_ok p.station) × (p.hops + longest f left p.station ≤ longest f left last)

module _ (f : Forwarding) (rank : f.State → ℕ) (valid : f.States → Type 0) (law : Lawful f rank valid) (tests : Tests f) (left : ℕ)
    (admits : Admits f rank valid tests left) where
  -- a setting begins anew, and a hop that goes down an entry takes from the station's figure what it adds to the hops
  kept : (c : Call f) (last : f.State) (p : Packet f.State) → Kept f tests left last p →
      Kept f tests left (set_by f tests c last) (after_call f tests c p)
  unfolding set_by after_call after_hop start
  kept (setting s) last p k = go (tests.start_ok s) refl
    where
      go : (b : Bool) → tests.start_ok s ≡ b → Kept f tests left (cond b s last) (cond b (start s) p)
      go true e = (rw e tt, omega arith)
      go false e = k
  kept (hopping x) last p k = go (tests.hop_ok x p) (hopped f x p)
    where
      go : (b : Bool) {o : Hop f.State} → Hopped f x p o → Kept f tests left last (cond b (after_hop p o) p)
      go false h = k
      go true (stays_home h) = k
      go true (stuck h d) = k
      go true (went o e c) =
          let m = law.chosen x p.station e c in
          (admits.stays p.station k.0 e m, omega (arith, lower f rank valid law left _ e (admits.ranked _ k.0) m))

  -- so it is kept to the end of any list
  kept_all : (cs : List (Call f)) (last : f.State) (p : Packet f.State) → Kept f tests left last p →
      Kept f tests left (last_set f tests cs last) (after_calls f tests cs p)
  unfolding after_calls last_set
  kept_all [] last p k = k
  kept_all (c ∷ cs) last p k = kept_all cs _ _ (kept c last p k)

  -- a list that begins with an accepted setting goes on from its start
  from_start : (p : Packet f.State) (first : f.State) → T (tests.start_ok first) → (cs : List (Call f)) →
      after_calls f tests (setting first ∷ cs) p ≡ after_calls f tests cs (start first)
  unfolding after_calls
  from_start p first ok cs = ap (after_calls f tests cs) ((calls_by_rule f tests p first).sets first ok).0

  bound : (p : Packet f.State) (first : f.State) → T (tests.start_ok first) → (cs : List (Call f)) →
      (after_calls f tests (setting first ∷ cs) p).hops + longest f left (after_calls f tests (setting first ∷ cs) p).station
      ≤ longest f left (last_set f tests cs first)
  unfolding start
  bound p first ok cs = rw (from_start p first ok cs) (kept_all cs first (start first) (ok, omega arith)).1

  -- a hop that the tests let pass goes down the entry chosen
  call_down : (x : f.States) (p : Packet f.State) (e : f.Entry) → f.choose x p.station ≡ some e → T (tests.hop_ok x p) →
      after_call f tests (hopping x) p ≡ record { station = f.next e; hops = suc p.hops }
  call_down x p e c ok = (calls_by_rule f tests p p.station).hops x ok _ (hop_down f rank valid law x p e c)

  -- hops under the states of a way go all of it, as long as the hops made stay below `left`
  over_way : {s : f.State} {xs : List f.States} → Way f valid s xs → (h : ℕ) → T (tests.start_ok s) → h + length xs ≤ left →
      (after_calls f tests (map hopping xs) (record { station = s; hops = h })).hops ≡ h + length xs
  unfolding after_calls
  over_way stop h ok fits = omega arith
  over_way {s} (down {x = x} e v c w) h ok fits =
      let p : Packet f.State = record { station = s; hops = h } in
      rw (after_calls, call_down x p e c (admits.admitted x v p ok (omega arith)))
      (omega (arith, over_way w (suc h) (admits.stays s ok e (law.chosen x s e c)) (omega arith)))

  bounded : CallsBounded f tests (longest f left)
  unfolding start
  bounded =
      record {
        invariant = bound;
        never_passed = λ p first ok cs. omega (arith, bound p first ok cs);
        reached = λ p s ok.
            let r = admits.ranked s ok in
            let way = longest_way f rank valid law left s r in
            let short = way_falls f rank valid law way.1 in (
              map hopping way.0,
              last_kept f tests way.0 s,
              rw (from_start p s ok (map hopping way.0)) (omega (arith, over_way way.1 0 ok (omega arith))),
            );
      }

pub calls_exact : CallsExact
calls_exact = bounded
