-- What passes the tests of `checking` is accepted, and the other way round: as many ranks are reached as routers have a path, so where each router that is
-- placed has one, all are placed. What is built is the order by the rule.
-- Assumes nothing.
use Prim.Native.Nat.{ℕ, zero, suc, pred, ◌-◌, ◌≤◌, ◌<◌}
use mathlib.Core.Bool.{Bool, false, not}
use mathlib.Core.List.Memᴰ
use mathlib.Core.List.{List, [], ◌∷◌, ◌++◌, Memᴰ}
use mathlib.Core.Logic.{◌↔◌, ⊎_elim}
use mathlib.Core.Path.{◌≡◌, refl, sym, ap, ◌∙◌, subst}
use native.Mathlib.Omega.{arith}
use borrow.Author.Tests.{not-false, lt-ltb, le-ltb}
use lib.Dec.{T}
use lib.ListN.{length, get_or, take, drop, replicate, length-append, take-append-drop}
use lib.Seq.{split_at, take_at, drop_at, get_or_at, get_or-take, length_front, length-take-le}
use Rattle.network.specs.Lists.{Distinct, below}
use Rattle.network.specs.Network.{size}
use Rattle.network.specs.Distance.{PathTo, arrived, distances}
use Rattle.network.specs.Order.{free, candidate, build, accepted}
use Rattle.network.specs.Theorems.Order.{Candidate, Accepted}
use Rattle.network.proofs.Tests.{as_true, as_false}
use Rattle.network.proofs.Lists.{pairwise_split}
use Rattle.network.proofs.Below.{mem_below, below_lt, below_distinct, length_below}
use Rattle.network.proofs.Pigeon.{member?, distinct_cons}
use Rattle.network.proofs.Distance.{starts_in}
use Rattle.network.proofs.Candidate.{candidate_fact, fact_candidate}
use Rattle.network.proofs.Build.{built_by_rule}
use Rattle.network.proofs.Order.{acceptance_exact, built_accepted, shortest_path_is_free}
use Rattle.topology_types.specs.declared.Topology.{Topology}
use Rattle.topology_types.specs.Topology.{padded, network_of}
use Rattle.topology_sound.specs.Sound.{sound}
use Rattle.topology_types.specs.Outcome.{first_or, answer, given, turned_away}
use Rattle.topology_sound.specs.Theorems.{SoundNetwork}
use Rattle.order_standings.specs.declared.Mode.{Mode}
use Rattle.order_standings.specs.declared.Mode.TheVariants as mode
use Rattle.order.specs.Calls.{mode_of, reached_count_lem, order_bytes, unready_ranks, building, checking}
use Rattle.order.specs.Inner.{FirstPlaced}
use Rattle.order.specs.Theorems.{ReachedRight, OrderHeld, ChecksExact, BuiltWell, BuildsByRule, BuildRefuses}
use Rattle.topology_sound.proofs.Sound.{sound_networks}
use Rattle.topology_sound.proofs.Place.{on_place_unsound, on_place_outside, on_place_next}
use Rattle.order.proofs.Reached.{counted, no_more, reached_most, reached_some, accepted_long, built_long, bytes_long}
use Rattle.order.proofs.Ranges.{get_d_mem, mem_get_d, differ, keep_none, none_passes, keep_first, first_passes}
use Rattle.order.proofs.Entries.{entry_right, none_wrong}
use Rattle.order.proofs.After.{none_ranked, all_none, rest_same, past_part}
use Rattle.order.proofs.Answers.{is_0}
use Rattle.order.proofs.Decided.{Proposed, passes, judged}

module _ (t : Topology) (is-sound : T (sound t)) (d : ℕ) (place : d < t.routers) where
  facts : SoundNetwork t
  facts = sound_networks t is-sound

  inside : d < size (network_of t)
  inside = omega (arith, facts.routers)

  -- how many ranks are reached
  abbrev reach : ℕ
  reach = reached_count_lem (network_of t) d

  pub few_reached : reach ≤ t.routers
  few_reached = omega (arith, reached_most (network_of t) facts.well_formed d inside, facts.routers)

  pub some_reached : 1 ≤ reach
  some_reached = reached_some (network_of t) facts.well_formed d inside free

  module _ (m : Mode) (order : List ℕ) where
    -- the router at a rank is a candidate after those before it, as a fact and as a test
    abbrev InTurn : ℕ → Type 0
    InTurn r = Candidate (network_of t) d (mode_of m) (take r order) (get_or order r 0)

    abbrev in_turn? : ℕ → Bool
    in_turn? r = candidate (network_of t) (distances (network_of t) d) (mode_of m) (take r order) (get_or order r 0)

    abbrev unready? : ℕ → Bool
    unready? r = not (in_turn? r)

    in-turn : (r : ℕ) → not (in_turn? r) ≡ false → InTurn r
    in-turn r e = candidate_fact (network_of t) facts.well_formed d inside (mode_of m) _ _ (rw (not-false (in_turn? r) e) tt)

    not_unready : (r : ℕ) → InTurn r → not (in_turn? r) ≡ false
    not_unready r c = rw (as_true (in_turn? r) (fact_candidate (network_of t) facts.well_formed d inside (mode_of m) _ _ c))

    -- where no rank is unready each router has a path, and all that have one are there
    pub accepts : FirstPlaced t d order → length order ≡ reach → unready_ranks (network_of t) d (mode_of m) order ≡ [] → Accepted (network_of t) d (mode_of m) order
    unfolding unready_ranks
    accepts b long none =
        let right = entry_right t.routers order b.once in
        let once = differ order 0 (λ i h. (right i h).1) in
        let turn : (r : ℕ) → 1 ≤ r → r < length order → InTurn r = λ r h k. in-turn r (none_passes _ 1 (pred (length order)) none r h (omega arith)) in
        let only : (u : ℕ) → Memᴰ u order → PathTo (network_of t) d u =
        λ u k. let (i, h, e) = mem_get_d 0 k in subst (PathTo (network_of t) d) e (at_rank i h b.first (turn i)) in
        record {
          once = once;
          all = λ u path. there once only long u path (member? u order);
          only = only;
          first = (drop 1 order, split_at order 0 0 (omega (arith, b.some_rank)) ∙ rw b.first);
          in-turn = λ v before u after e.
              let r = length (v ∷ before) in
              let within : r < length order = omega (arith, ap length e, length-append before (u ∷ after)) in
              rw (e, take_at (v ∷ before) (u ∷ after) r refl, get_or_at (v ∷ before) u after 0 r refl) at (turn r (omega arith) within);
        }
      where
        at_rank : (i : ℕ) → i < length order → get_or order 0 0 ≡ d → (1 ≤ i → i < length order → InTurn i) → PathTo (network_of t) d (get_or order i 0)
        at_rank zero h first turn = arrived first
        at_rank (suc i) h first turn = (turn (omega arith) h).path

        there : Distinct order → ((u : ℕ) → Memᴰ u order → PathTo (network_of t) d u) → length order ≡ reach → (u : ℕ) → PathTo (network_of t) d u →
            Dec (Memᴰ u order) → Memᴰ u order
        there once only long u path (yes k) = k
        there once only long u path (no out) =
            absurd
            (omega (
              arith,
              no_more (network_of t) facts.well_formed d inside (u ∷ order) (distinct_cons out once)
                  (λ v k. ⊎_elim (λ e. subst (PathTo (network_of t) d) (sym e) path) (only v) (Memᴰ.cases_cons k)),
            ))

    module _ (a : Accepted (network_of t) d (mode_of m) order) where
      pub begins : FirstPlaced t d order
      begins =
          let n = network_of t in
          let wf = facts.well_formed in
          let first = a.first in
          record {
            on_sound = is-sound;
            place = place;
            some_rank = omega (arith, ap length first.1);
            once =
                none_wrong t.routers order
                (λ r h. (
                  omega (arith, starts_in n wf d inside (a.only _ (get_d_mem order r 0 h)), facts.routers),
                  λ k. pairwise_split (take r order) (get_or order r 0) (drop (suc r) order) (subst Distinct (split_at order r 0 h) a.once) _ k refl,
                ));
            first = ap (λ (l : List ℕ). get_or l 0 0) first.1;
          }

      turn-of : (r : ℕ) → 1 ≤ r → r < length order → InTurn r
      turn-of zero h k = absurd (omega arith)
      turn-of (suc r) h k =
          let (rest, e) = a.first in
          let head : take (suc r) order ≡ d ∷ take r rest = ap (take (suc r)) e in
          rw head (a.in-turn d (take r rest) (get_or order (suc r) 0) (drop (suc (suc r)) order) (rw head at (split_at order (suc r) 0 k)))

      pub none_unready : unready_ranks (network_of t) d (mode_of m) order ≡ []
      unfolding unready_ranks
      none_unready = keep_none _ 1 (pred (length order)) (λ r h k. not_unready r (turn-of r h (omega arith)))

      pub long : length order ≡ reach
      long = accepted_long (network_of t) facts.well_formed d inside (mode_of m) a

    -- 20 points at the first that is no candidate
    pub unready_at : (r : ℕ) (rest : List ℕ) → unready_ranks (network_of t) d (mode_of m) order ≡ r ∷ rest →
        (1 ≤ r) × (r < length order) × (InTurn r → ⊥) × ((k : ℕ) → 1 ≤ k → k < r → InTurn k)
    unfolding unready_ranks
    unready_at r rest e =
        let w = first_passes unready? 1 (pred (length order)) r rest e in (
          w.least,
          omega (arith, w.within, w.least),
          λ c. subst T (sym w.passes ∙ not_unready r c) tt,
          λ k h l. in-turn k (w.earlier k h l),
        )

    pub at_unready : (other r : ℕ) → 1 ≤ r → r < length order → (InTurn r → ⊥) → ((k : ℕ) → 1 ≤ k → k < r → InTurn k) →
        first_or other (unready_ranks (network_of t) d (mode_of m) order) ≡ r
    unfolding unready_ranks
    at_unready other r least within out earlier =
        keep_first unready? other 1 (pred (length order)) r
        (record {
          least = least;
          within = omega arith;
          passes = rw (as_false (in_turn? r) (λ c. out (in-turn r (rw (as_true (in_turn? r) c)))));
          earlier = λ k h l. not_unready k (earlier k h l);
        })

  module _ (m : Mode) (bytes : List ℕ) where
    -- the reached ranks
    abbrev pub part : List ℕ
    part = take reach bytes

    -- a proposed order begins as its reached ranks do, and is 255 after them
    module _ (p : Proposed t d bytes) where
      part_long : length part ≡ reach
      part_long = length-take-le reach bytes (omega (arith, p.long, few_reached))

      pub proposal_begins : FirstPlaced t d part
      proposal_begins =
          record {
            on_sound = is-sound;
            place = place;
            some_rank = omega (arith, part_long, some_reached);
            once = p.once;
            first = get_or-take reach bytes 0 0 some_reached ∙ p.first;
          }

      pub proposal_bytes : bytes ≡ order_bytes t.routers part
      unfolding order_bytes padded
      proposal_bytes =
          sym (take-append-drop reach bytes)
          ∙ ap (λ (l : List ℕ). part ++ l)
          (rw part_long (rest_same bytes reach t.routers p.long (none_ranked bytes reach p.none_after)))

    -- what is accepted, and then 255, is proposed
    pub proposes : Accepted (network_of t) d (mode_of m) part → bytes ≡ order_bytes t.routers part → Proposed t d bytes
    unfolding order_bytes padded
    proposes a e =
        let b = begins m part a in
        let part_long = long m part a in
        let bytes_are = bytes_long t.routers part (omega (arith, few_reached)) in
        let whole : length bytes ≡ t.routers = ap length e ∙ bytes_are in
        record {
          on_sound = is-sound;
          place = place;
          long = whole;
          once = b.once;
          none_after =
              all_none bytes reach
              (λ r h k. ap (λ (l : List ℕ). get_or l r 0) e ∙ past_part part t.routers r (omega arith) (omega arith));
          first = sym (get_or-take reach bytes 0 0 some_reached) ∙ b.first;
        }

    pub exact : (checking t d m bytes ≡ answer 0 0) ↔ (Accepted (network_of t) d (mode_of m) part × (bytes ≡ order_bytes t.routers part))
    exact = (
      λ e. let (at, p, none) = is_0 t d m bytes 0 e in (accepts m part (proposal_begins p) (part_long p) none, proposal_bytes p),
      λ (a, e). let p = proposes a e in sym (passes t d m bytes p (none_unready m part a) ∙ judged t d m bytes is-sound place),
    )

  -- an order that is accepted, and then 255, is accepted as bytes
  module _ (m : Mode) (order : List ℕ) (a : Accepted (network_of t) d (mode_of m) order) where
    pub part_is : take reach (order_bytes t.routers order) ≡ order
    unfolding order_bytes padded
    part_is = take_at order (replicate (t.routers - length order) 255) reach (long m order a)

    pub checks : checking t d m (order_bytes t.routers order) ≡ answer 0 0
    checks = (exact m (order_bytes t.routers order)).1 (rw part_is (a, refl))

  in_free : (m : Mode) (order : List ℕ) → T (accepted (network_of t) d (mode_of m) order) → T (accepted (network_of t) d (mode_of mode.Free) order)
  unfolding mode_of
  in_free mode.ShortestPath order a = shortest_path_is_free (network_of t) facts.well_formed d inside order a
  in_free mode.Free order a = a

  module _ (m : Mode) (buffer : List ℕ) where
    abbrev built : List ℕ
    built = build (network_of t) d (mode_of m)

    pub order_long : length (order_bytes t.routers built) ≡ t.routers
    order_long =
        bytes_long t.routers built (omega (arith, built_long (network_of t) facts.well_formed d inside (mode_of m), few_reached))

    -- what building leaves
    left : t.routers ≤ length buffer →
        building t d m buffer ≡ record { answer = answer 0 t.routers; buffer = order_bytes t.routers built ++ drop t.routers buffer }
    unfolding building given
    left enough = rw (on_place_next, order_long, le-ltb (length buffer) t.routers enough)

    no_room : length buffer < t.routers → building t d m buffer ≡ turned_away 24 t.routers buffer
    unfolding building given turned_away
    no_room short = rw (on_place_next, order_long, lt-ltb (length buffer) t.routers short)

    built_well : t.routers ≤ length buffer → BuiltWell t d m (mode_of m) buffer
    unfolding order_bytes padded
    built_well enough =
        let then = left enough in
        let bytes = order_bytes t.routers built in
        let rest = drop t.routers buffer in
        let front = take_at bytes rest t.routers order_long in
        let n = network_of t in
        let wf = facts.well_formed in
        let test = built_accepted n wf d inside (mode_of m) in
        let a = (acceptance_exact n wf d inside (mode_of m) built).0 test in
        record {
          success = rw then;
          order = built;
          by_rule = (built_by_rule n wf d inside (mode_of m)).0;
          all_reached = λ u. (a.only u, a.all u);
          bytes = rw (then, front) refl;
          rest = rw then (drop_at bytes rest t.routers order_long);
          long = rw then (length_front buffer bytes t.routers (order_long ∙ sym (length-take-le t.routers buffer enough)));
          in_mode = rw (then, front) (checks m built a);
          in_free = rw (then, front) (checks mode.Free built ((acceptance_exact n wf d inside (mode_of mode.Free) built).0 (in_free m built test)));
        }

-- some order holds, and then 255
pub holds_exact : (t : Topology) → T (sound t) → (d : ℕ) → d < t.routers → (m : Mode) (bytes : List ℕ) →
    (checking t d m bytes ≡ answer 0 0) ↔ ((order : List ℕ) × OrderHeld t d (mode_of m) bytes order)
unfolding order_bytes padded
holds_exact t s d place m bytes = (
  λ e. let (a, are) = (exact t s d place m bytes).0 e in (part t s d place m bytes, record { accepted = a; bytes_are = are }),
  λ (order, h). rw h.bytes_are (checks t s d place m order h.accepted),
)

pub checks_exact : ChecksExact
unfolding mode_of
checks_exact t s d place = record { in_shortest_path = holds_exact t s d place mode.ShortestPath; in_free = holds_exact t s d place mode.Free }

pub reached_right : ReachedRight
reached_right n wf d inside =
    record {
      counts = λ us once are. sym (counted n wf d inside us once are);
      some_list =
          let a = (acceptance_exact n wf d inside free (build n d free)).0 (built_accepted n wf d inside free) in
          (build n d free, a.once, λ u. (a.only u, a.all u));
      whole = λ paths.
          sym (counted n wf d inside (below (size n)) (below_distinct (size n))
          (λ u. (λ k. paths u (below_lt (size n) k), λ p. mem_below (starts_in n wf d inside p))))
          ∙ length_below (size n);
    }

pub builds_by_rule : BuildsByRule
unfolding mode_of
builds_by_rule t s d place = record { in_shortest_path = built_well t s d place mode.ShortestPath; in_free = built_well t s d place mode.Free }

pub build_refuses : BuildRefuses
unfolding building turned_away
build_refuses t d m buffer =
    record {
      not_sound = on_place_unsound _ t d _;
      no_place = on_place_outside _ t d _;
      no_room = λ s place short. no_room t s d place m buffer short;
    }
