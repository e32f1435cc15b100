-- Lists of calls over a system. What one call leaves is read off what it answers. Every call keeps hops made plus the station's longest way at most that of
-- where the packet was last set; the hops of a longest way, each under valid states and none of them refused, attain it.
-- Assumes nothing.
use Prim.Native.Nat.{ℕ, zero, suc, ◌+◌, ◌≤◌, ◌<◌}
use mathlib.Core.List.Memᴰ
use mathlib.Core.List.{List, [], ◌∷◌, ◌++◌, map, Memᴰ}
use mathlib.Core.Logic.{◌⊎◌, inl, inr, ⊎_elim}
use mathlib.Core.Path.{◌≡◌, refl, sym, ap, ◌∙◌, subst}
use native.Mathlib.Omega.{arith}
use lib.ListN.{length}
use Rattle.network.specs.Lists.{greatest_by}
use Rattle.network.specs.Forwarding as network
use Rattle.network.specs.Forwarding.{Forwarding, Packet, start, longest}
use Rattle.network.proofs.Hops.{Hopped, stays_home, stuck, went, hopped}
use Rattle.network.proofs.Forwarding.{Way, stop, down, lower, longest_way, hop_down}
use Rattle.forwarding_rules.specs.Calls.{Said, done, refused}
use Rattle.forwarding_rules.specs.Lent.{packet_after_setting_lem, packet_after_hop_lem}
use Rattle.forwarding_rules.specs.System.{System}
use Rattle.forwarding_rules.specs.Lists.{PacketCall, set_at, hop_under, last_after, after_one, after_all, set_after, last_set_in}
use Rattle.forwarding_rules.specs.Theorems.Demand3.{CallRule, InTurn, CallsBounded}
use Rattle.forwarding_rules.specs.Inner.{LeftByAnswer, Laws}

-- what is answered is done or refused
kinds : {A : Type 0} (said : Said A) → ((x : A) × (said ≡ done x)) ⊎ ((number at : ℕ) × (said ≡ refused number at))
kinds (done x) = inl (x, refl)
kinds (refused number at) = inr (number, at, refl)

pub in-turn : (s : System) (p : Packet s.forwarding.State) (last : ℕ) → InTurn s p last
unfolding after_all last_set_in
in-turn s p last = record { no_calls = (refl, refl); one_more = λ cs c. last_call cs c p last }
  where
    last_call : (cs : List (PacketCall s.forwarding.States)) (c : PacketCall s.forwarding.States) (q : Packet s.forwarding.State) (u : ℕ) →
        (after_all s (cs ++ (c ∷ [])) q ≡ after_one s c (after_all s cs q)) × (last_set_in s (cs ++ (c ∷ [])) u ≡ set_after s c (last_set_in s cs u))
    last_call [] c q u = (refl, refl)
    last_call (e ∷ cs) c q u = last_call cs c (after_one s e q) (set_after s e u)

pub each_call : (s : System) → LeftByAnswer s → (p : Packet s.forwarding.State) (last : ℕ) → CallRule s p last
unfolding after_one set_after packet_after_setting_lem packet_after_hop_lem last_after
each_call s left p last =
    record {
      set_answers = λ u. left.set_answers u p;
      hop_answers = λ x. left.hop_answers x p;
      set_leaves = λ u. refl;
      hop_leaves = λ x. refl;
      sets = λ u q e. (left.set_leaves u p ∙ ap (packet_after_setting_lem p) e, ap (last_after u last) e);
      set_refused = λ u number at e. (left.set_leaves u p ∙ ap (packet_after_setting_lem p) e, ap (last_after u last) e);
      hops = λ x q e. left.hop_leaves x p ∙ ap (packet_after_hop_lem p) e;
      stays = λ x h. left.hop_leaves x p ∙ ⊎_elim (λ e. ap (packet_after_hop_lem p) e) (λ e. ap (packet_after_hop_lem p) e) h;
      hop_refused = λ x number at e. left.hop_leaves x p ∙ ap (packet_after_hop_lem p) e;
      hop_sets_nothing = λ x. refl;
    }

module _ (s : System) (l : Laws s) where
  abbrev f : Forwarding
  f = s.forwarding

  -- the longest way from a station
  abbrev far : f.State → ℕ
  far st = longest f l.rows st

  rule : (p : Packet f.State) (last : ℕ) → CallRule s p last
  rule = each_call s l.left_by

  -- What each call keeps of a packet last set at `last`: it cannot pass the longest way from there, and while no hop is made it stands there.
  record Kept (last : ℕ) (p : Packet f.State) : Type 0 where
    placed : last < s.places
    low : l.rank p.station ≤ l.rows
    few : p.hops + far p.station ≤ far (s.standing last)
    still : p.hops ≡ 0 → p.station ≡ s.standing last

  renamed : {j k : ℕ} {p q : Packet f.State} → k ≡ j → q ≡ p → Kept j p → Kept k q
  renamed {j} {k} {p} {q} e g h = subst (λ (i : ℕ). Kept i q) (sym e) (subst (Kept j) (sym g) h)

  begun : (u : ℕ) → u < s.places → Kept u (start (s.standing u))
  unfolding start
  begun u place = record { placed = place; low = (l.starts u place).1; few = omega arith; still = λ e. refl }

  -- a setting begins anew, and a hop that goes down an entry takes from the longest way what it adds to the hops
  kept : (c : PacketCall f.States) (last : ℕ) (p : Packet f.State) → Kept last p → Kept (set_after s c last) (after_one s c p)
  kept (set_at u) last p k = step (kinds (s.setting u))
    where
      step : ((q : Packet f.State) × (s.setting u ≡ done q)) ⊎ ((number at : ℕ) × (s.setting u ≡ refused number at)) →
          Kept (set_after s (set_at u) last) (after_one s (set_at u) p)
      step (inl (q, e)) =
          let place = l.sets_only u q e in
          let (leaves, there) = (rule p last).sets u (start (s.standing u)) (l.sets u place) in
          renamed there leaves (begun u place)
      step (inr (number, at, e)) = let (leaves, there) = (rule p last).set_refused u number at e in renamed there leaves k
  kept (hop_under x) last p k = step (kinds (s.hopping x p))
    where
      on : {h : network.Hop f.State} → Hopped f x p h → s.hopping x p ≡ done h → Kept (set_after s (hop_under x) last) (after_one s (hop_under x) p)
      on (stays_home h) e = renamed ((rule p last).hop_sets_nothing x) ((rule p last).stays x (inl e)) k
      on (stuck off c) e = renamed ((rule p last).hop_sets_nothing x) ((rule p last).stays x (inr e)) k
      on (went off y c) e =
          let m = l.lawful.chosen x p.station y c in
          let falls = l.lawful.falls p.station y m in
          renamed ((rule p last).hop_sets_nothing x) ((rule p last).hops x _ e)
          record {
            placed = k.placed;
            low = omega (arith, k.low);
            few = omega (arith, k.few, lower f l.rank l.valid l.lawful l.rows p.station y k.low m);
            still = λ z. absurd (omega arith);
          }

      step : ((h : network.Hop f.State) × (s.hopping x p ≡ done h)) ⊎ ((number at : ℕ) × (s.hopping x p ≡ refused number at)) →
          Kept (set_after s (hop_under x) last) (after_one s (hop_under x) p)
      step (inl (h, e)) = let (stands, sound) = l.hops_only x p h e in on (hopped f x p) (l.hops x p stands sound)
      step (inr (number, at, e)) = renamed ((rule p last).hop_sets_nothing x) ((rule p last).hop_refused x number at e) k

  -- so it is kept to the end of any list
  kept_all : (cs : List (PacketCall f.States)) (last : ℕ) (p : Packet f.State) → Kept last p → Kept (last_set_in s cs last) (after_all s cs p)
  unfolding after_all last_set_in
  kept_all [] last p k = k
  kept_all (c ∷ cs) last p k = kept_all cs _ _ (kept c last p k)

  -- a list that begins with an accepted setting goes on from its start
  set_first : (p : Packet f.State) (u : ℕ) → u < s.places → (cs : List (PacketCall f.States)) →
      after_all s (set_at u ∷ cs) p ≡ after_all s cs (record { station = s.standing u; hops = 0 })
  unfolding after_all start
  set_first p u place cs = ap (after_all s cs) ((rule p u).sets u _ (l.sets u place)).0

  ended : (p : Packet f.State) (first : ℕ) → first < s.places → (cs : List (PacketCall f.States)) →
      Kept (last_set_in s cs first) (after_all s (set_at first ∷ cs) p)
  unfolding start
  ended p first place cs = renamed refl (set_first p first place cs) (kept_all cs first (start (s.standing first)) (begun first place))

  -- where there is no path there is no way
  far_unreached : (u : ℕ) → u < s.places → (s.reached u → ⊥) → far (s.standing u) ≡ 0
  far_unreached u place out = step l.rows
    where
      step : (left : ℕ) → longest f left (s.standing u) ≡ 0
      step zero = unfold longest in refl
      step (suc left) = unfold longest greatest_by in rw (l.row_unreached u place out).0

  -- hops set the packet nowhere
  last_kept : (xs : List f.States) (u : ℕ) → last_set_in s (map hop_under xs) u ≡ u
  unfolding last_set_in set_after
  last_kept [] u = refl
  last_kept (x ∷ xs) u = last_kept xs u

  all_sound : {st : f.State} {xs : List f.States} → Way f l.valid st xs → (c : PacketCall f.States) → Memᴰ c (map hop_under xs) →
      (x : f.States) × (c ≡ hop_under x) × s.sound_states x
  all_sound stop c m = absurd (Memᴰ.not-nil m)
  all_sound (down {x = x} e v k w) c (Memᴰ.head h) = (x, h, l.valid_sound x v)
  all_sound (down e v k w) c (Memᴰ.tail m) = all_sound w c m

  -- hops under the states of a way go all of it
  over_way : {st : f.State} {xs : List f.States} → Way f l.valid st xs → (h : ℕ) → l.inside st → h + l.rank st ≤ l.rows →
      (after_all s (map hop_under xs) (record { station = st; hops = h })).hops ≡ h + length xs
  unfolding after_all
  over_way stop h in-it few = omega arith
  over_way {st} (down {x = x} e v c w) h in-it few =
      let p : Packet f.State = record { station = st; hops = h } in
      let m = l.lawful.chosen x st e c in
      let falls = l.lawful.falls st e m in
      let made = (rule p 0).hops x _ (l.hops x p (l.admitted p in-it few) (l.valid_sound x v) ∙ ap done (hop_down f l.rank l.valid l.lawful x p e c)) in
      rw (after_all, made) (omega (arith, over_way w (suc h) (l.stays st in-it e m) (omega arith)))

  pub bounded : CallsBounded s
  bounded =
      record {
        never_passed = λ p first place cs.
            let k = ended p first place cs in
            let last = last_set_in s cs first in (
              k.placed,
              ⊎_elim (λ path. omega (arith, k.few, l.figure_reached last k.placed path))
                  (λ out. omega (arith, k.few, far_unreached last k.placed out)) (l.either last k.placed),
            );
        never_moved = λ p first place cs out.
            let k = ended p first place cs in
            let none_made : (after_all s (set_at first ∷ cs) p).hops ≡ 0 = omega (arith, k.few, far_unreached _ k.placed out) in
            λ i. record { station = k.still none_made i; hops = none_made i };
        reached = λ p u place path.
            let (in-it, low) = l.starts u place in
            let (xs, way, long) = longest_way f l.rank l.valid l.lawful l.rows (s.standing u) low in (
              map hop_under xs,
              last_kept xs u,
              rw (set_first p u place (map hop_under xs)) (omega (arith, over_way way 0 in-it (omega arith), long, l.figure_reached u place path)),
              all_sound way,
            );
      }
