-- Building and acceptance. Placing goes on while there is a candidate, which there is while a router with a path is unplaced; with room for every
-- place it ends with all of them. Each router is a candidate when placed, which is what `accepted` asks.
-- Assumes nothing.
use Prim.Native.Nat.{ℕ, zero, suc, ◌+◌, ◌≤◌, ◌<◌}
use mathlib.Core.Bool.{true, false}
use mathlib.Core.List.Memᴰ
use mathlib.Core.List.{List, [], ◌∷◌, ◌++◌, Memᴰ}
use mathlib.Core.List.{append-nil, nil≢cons, head-eq_of_cons-eq, tail-eq_of_cons-eq}
use mathlib.Core.Logic.{⊎_elim}
use mathlib.Core.Option.{Option, none, some}
use mathlib.Core.Path.{◌≡◌, refl, sym, ◌∙◌, ap}
use native.Mathlib.Omega.{arith}
use lib.Dec.{T, eqb→eq, eqb_refl}
use lib.ListN.{length, length-append}
use lib.Seq.{append_snoc}
use Rattle.network.specs.Lists.{below, keep, every, distinct, Distinct, nothing}
use Rattle.network.specs.Network.{Network, size, WellFormed}
use Rattle.network.specs.Distance.{PathTo, arrived, distances}
use Rattle.network.specs.Order.{Mode, shortest-path, free, reached, candidate, select, continued, placing, build, candidates_in_turn}
use Rattle.network.specs.Order.{holds_each_once, first_is, others_in_turn, accepted}
use Rattle.network.specs.Theorems.Order.{Candidate, Accepted, HeldOnce, AcceptanceExact, Complete, NeverStuck, BuiltAccepted, ShortestPathIsFree}
use Rattle.network.proofs.Tests.{both, and, three, and_three, eq_test}
use Rattle.network.proofs.Lists.{mem_keep, keep_mem, every_all, all_every, member_mem, mem_member, distinct_fact, fact_distinct}
use Rattle.network.proofs.Below.{mem_below, below_lt, below_distinct, length_below}
use Rattle.network.proofs.Pigeon.{no_longer, at_most, member?, all_there, distinct_cons, distinct_snoc}
use Rattle.network.proofs.Distance.{starts_in}
use Rattle.network.proofs.NextHop.{path_reached, reached_path}
use Rattle.network.proofs.Candidate.{candidate_fact, fact_candidate, also_free, some_candidate}
use Rattle.network.proofs.Selection.{selection_right}
use Rattle.network.proofs.Splits.{Splits, no_more, one_more, head_of, tail_of}
use Rattle.network.proofs.Placing.{placing_next}

module _ (n : Network) (wf : WellFormed n) (d : ℕ) (in_network : d < size n) (mode : Mode) where
  -- the test at each place of a list is a fact at each split of it
  turn_fact : (placed rest : List ℕ) → T (candidates_in_turn n (distances n d) mode placed rest) → Splits (Candidate n d mode) placed rest
  unfolding candidates_in_turn
  turn_fact placed [] t = no_more (Candidate n d mode) placed
  turn_fact placed (v ∷ rest) t =
      let (c, r) = both (candidate n (distances n d) mode placed v) (candidates_in_turn n (distances n d) mode (placed ++ (v ∷ [])) rest) t in
      one_more (Candidate n d mode) placed v rest (candidate_fact n wf d in_network mode placed v c) (turn_fact (placed ++ (v ∷ [])) rest r)

  fact_turn : (placed rest : List ℕ) → Splits (Candidate n d mode) placed rest → T (candidates_in_turn n (distances n d) mode placed rest)
  unfolding candidates_in_turn
  fact_turn placed [] h = tt
  fact_turn placed (v ∷ rest) h =
      and (candidate n (distances n d) mode placed v) (candidates_in_turn n (distances n d) mode (placed ++ (v ∷ [])) rest)
      (fact_candidate n wf d in_network mode placed v (head_of (Candidate n d mode) placed v rest h))
      (fact_turn (placed ++ (v ∷ [])) rest (tail_of (Candidate n d mode) placed v rest h))

  -- candidates in turn differ from one another and from what was placed, and have paths
  turn_distinct : (placed rest : List ℕ) → T (candidates_in_turn n (distances n d) mode placed rest) → Distinct placed → Distinct (placed ++ rest)
  unfolding candidates_in_turn
  turn_distinct placed [] t p = rw append-nil p
  turn_distinct placed (u ∷ rest) t p =
      let (c, r) = both (candidate n (distances n d) mode placed u) (candidates_in_turn n (distances n d) mode (placed ++ (u ∷ [])) rest) t in
      rw append_snoc at (turn_distinct (placed ++ (u ∷ [])) rest r (distinct_snoc p (candidate_fact n wf d in_network mode placed u c).unplaced))

  turn_paths : (placed rest : List ℕ) → T (candidates_in_turn n (distances n d) mode placed rest) → (v : ℕ) → Memᴰ v rest → PathTo n d v
  unfolding candidates_in_turn
  turn_paths placed [] t v m = absurd (Memᴰ.not-nil m)
  turn_paths placed (u ∷ rest) t v m =
      let (c, r) = both (candidate n (distances n d) mode placed u) (candidates_in_turn n (distances n d) mode (placed ++ (u ∷ [])) rest) t in
      ⊎_elim (λ e. rw e (candidate_fact n wf d in_network mode placed u c).path) (turn_paths (placed ++ (u ∷ [])) rest r v) (Memᴰ.cases_cons m)

  placing_turn : (left : ℕ) (placed : List ℕ) → T (candidates_in_turn n (distances n d) mode placed (placing n (distances n d) mode left placed))
  placing_turn left placed =
      fact_turn placed _ (λ before u after e. (selection_right n wf d in_network mode (placed ++ before)).taken u (placing_next n d mode left placed before u after e))

  -- with room for every place, placing leaves out no router that has a path
  placing_all : (left : ℕ) (placed : List ℕ) → Memᴰ d placed → Distinct placed → ((v : ℕ) → Memᴰ v placed → v < size n) →
      size n ≤ left + length placed → (u : ℕ) → PathTo n d u → Memᴰ u (placed ++ placing n (distances n d) mode left placed)
  unfolding placing continued
  placing_all zero placed m p h room u path = Memᴰ.append_left [] (all_there (size n) placed p h (omega arith) u (starts_in n wf d in_network path))
  placing_all (suc left) placed m p h room u path =
      step (select n (distances n d) mode placed) refl (λ w. placing_all left (placed ++ (w ∷ []))) (member? u placed)
    where
      more : ℕ → List ℕ
      more w = placing n (distances n d) mode left (placed ++ (w ∷ []))

      step : (o : Option ℕ) → select n (distances n d) mode placed ≡ o →
          ((w : ℕ) → Memᴰ d (placed ++ (w ∷ [])) → Distinct (placed ++ (w ∷ [])) → ((v : ℕ) → Memᴰ v (placed ++ (w ∷ [])) → v < size n) →
          size n ≤ left + length (placed ++ (w ∷ [])) → (v : ℕ) → PathTo n d v → Memᴰ v ((placed ++ (w ∷ [])) ++ more w)) →
          Dec (Memᴰ u placed) → Memᴰ u (placed ++ continued o more)
      step none e rest (yes k) = Memᴰ.append_left [] k
      step none e rest (no out) =
          let (v, c) = some_candidate n wf d in_network mode placed m u path out in
          absurd ((selection_right n wf d in_network mode placed).stuck e v c)
      step (some w) e rest k =
          let c = (selection_right n wf d in_network mode placed).taken w e in
          rw append_snoc at
          (rest w (Memᴰ.append_left (w ∷ []) m) (distinct_snoc p c.unplaced)
          (λ v l. ⊎_elim (h v) (λ j. let e' : v ≡ w = Memᴰ.eq_of_singleton j in rw e' (starts_in n wf d in_network c.path))
          (Memᴰ.append_cases placed l))
          (simp length-append (omega arith)) u path)

  holds_fact : (order : List ℕ) → T (holds_each_once n (distances n d) order) →
      Distinct order × ((u : ℕ) → PathTo n d u → Memᴰ u order) × ((u : ℕ) → Memᴰ u order → PathTo n d u)
  unfolding holds_each_once
  holds_fact order t =
      let (s, only, all) = three (distinct order) (every (reached n (distances n d)) order) _ t in (
        distinct_fact order s,
        λ u p. member_mem u order
            (every_all _ (keep (reached n (distances n d)) (below (size n))) all u
            (keep_mem _ (below (size n)) (mem_below (starts_in n wf d in_network p)) (path_reached n wf d in_network p))),
        λ u m. reached_path n wf d in_network u (every_all _ order only u m),
      )

  fact_holds : (order : List ℕ) → Distinct order → ((u : ℕ) → PathTo n d u → Memᴰ u order) → ((u : ℕ) → Memᴰ u order → PathTo n d u) →
      T (holds_each_once n (distances n d) order)
  unfolding holds_each_once
  fact_holds order p all only =
      and_three (distinct order) (every (reached n (distances n d)) order) _ (fact_distinct p)
      (all_every _ order (λ u m. path_reached n wf d in_network (only u m)))
      (all_every _ (keep (reached n (distances n d)) (below (size n)))
      (λ u m. mem_member u order (all u (reached_path n wf d in_network u (mem_keep _ (below (size n)) m).1))))

  accepted_fact : (order : List ℕ) → T (accepted n d mode order) → Accepted n d mode order
  unfolding accepted first_is others_in_turn
  accepted_fact [] t = absurd (three (holds_each_once n (distances n d) []) false true t).1
  accepted_fact (w ∷ rest) t =
      let (holds, first, turn) = three (holds_each_once n (distances n d) (w ∷ rest)) _ (candidates_in_turn n (distances n d) mode (w ∷ []) rest) t in
      let (p, all, only) = holds_fact (w ∷ rest) holds in
      record {
        once = p;
        all = all;
        only = only;
        first = (rest, ap (λ (v : ℕ). v ∷ rest) (eqb→eq w d first));
        in-turn = λ v before u after e. rw (← head-eq_of_cons-eq e) (turn_fact (w ∷ []) rest turn before u after (tail-eq_of_cons-eq e));
      }

  fact_accepted : (order : List ℕ) → Accepted n d mode order → T (accepted n d mode order)
  unfolding accepted first_is others_in_turn
  fact_accepted [] a = absurd (nil≢cons a.first.1)
  fact_accepted (w ∷ rest) a =
      and_three (holds_each_once n (distances n d) (w ∷ rest)) _ (candidates_in_turn n (distances n d) mode (w ∷ []) rest)
      (fact_holds (w ∷ rest) a.once a.all a.only) (eq_test (head-eq_of_cons-eq a.first.1))
      (fact_turn (w ∷ []) rest (λ before u after e. a.in-turn w before u after (ap (λ (l : List ℕ). w ∷ l) e)))

  -- an order with room for every place is accepted
  built_with : (left : ℕ) → size n ≤ left + 1 → T (accepted n d mode (d ∷ placing n (distances n d) mode left (d ∷ [])))
  unfolding accepted first_is others_in_turn
  built_with left room =
      let turn = placing_turn left (d ∷ []) in
      let order = d ∷ placing n (distances n d) mode left (d ∷ []) in
      let alone : Distinct (d ∷ []) = distinct_cons Memᴰ.not-nil nothing in
      and_three (holds_each_once n (distances n d) order) _ _
      (fact_holds order (turn_distinct (d ∷ []) _ turn alone)
      (placing_all left (d ∷ []) (Memᴰ.head refl) alone (λ v m. let e : v ≡ d = Memᴰ.eq_of_singleton m in rw e in_network) room)
      (λ u m. ⊎_elim (λ e. arrived e) (turn_paths (d ∷ []) _ turn u) (Memᴰ.cases_cons m)))
      (eqb_refl d) turn

  built : T (accepted n d mode (build n d mode))
  unfolding build
  built = built_with _ (omega arith)

  -- an accepted order is no longer than N
  pub order_fits : {order : List ℕ} → Accepted n d mode order → length order ≤ size n
  order_fits {order} a = at_most (size n) order a.once (λ u m. starts_in n wf d in_network (a.only u m))

  complete : Complete n d (build n d mode)
  complete =
      let a = accepted_fact (build n d mode) built in
      record {
        once = a.once;
        all = a.all;
        first = a.first;
        whole = λ paths.
            omega (
              arith,
              order_fits a,
              length_below (size n),
              no_longer (build n d mode) (below_distinct (size n)) (λ u m. a.all u (paths u (below_lt (size n) m))),
            );
      }

pub acceptance_exact : AcceptanceExact
acceptance_exact n wf d in_network mode order = (accepted_fact n wf d in_network mode order, fact_accepted n wf d in_network mode order)

pub never_stuck : NeverStuck
never_stuck = complete

pub built_accepted : BuiltAccepted
built_accepted = built

pub shortest_path_is_free : ShortestPathIsFree
shortest_path_is_free n wf d in_network order t =
    let a = accepted_fact n wf d in_network shortest-path order t in
    fact_accepted n wf d in_network free order
    record {
      once = a.once;
      all = a.all;
      only = a.only;
      first = a.first;
      in-turn = λ v before u after e.
          also_free n wf d in_network (v ∷ before) u (Memᴰ.head (head-eq_of_cons-eq (sym a.first.1 ∙ e))) (a.in-turn v before u after e);
    }

pub held_once : HeldOnce
held_once n wf d in_network order = (
  holds_fact n wf d in_network free order,
  λ (once, all, only). fact_holds n wf d in_network free order once all only,
)
