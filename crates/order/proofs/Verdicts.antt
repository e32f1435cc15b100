-- What each answer of `checking` says: each number tells the test that failed, and those before it passed.
-- Assumes nothing.
use Prim.Native.Nat.{ℕ, suc, ◌≤◌, ◌<◌}
use mathlib.Core.List.{List, [], ◌∷◌}
use mathlib.Core.Logic.{inl, inr, ⊎_elim}
use mathlib.Core.Path.{◌≡◌, sym, ◌∙◌, ap}
use native.Mathlib.Omega.{arith}
use borrow.Author.Tests.{ltb-false, eq-eqb}
use lib.Dec.{ltb}
use lib.ListN.{length, get_or, take}
use lib.Seq.{length-take-le, get_or-take, take-take}
use Rattle.network.proofs.Tests.{as_false}
use Rattle.topology_types.specs.declared.Answer.{Answer}
use Rattle.topology_types.specs.declared.Topology.{Topology}
use Rattle.topology_types.specs.Topology.{network_of}
use Rattle.topology_types.specs.Outcome.{answer}
use Rattle.order_standings.specs.declared.Mode.{Mode}
use Rattle.order_standings.specs.declared.Mode.TheVariants as mode
use Rattle.order.specs.Calls.{first_of, mode_of, reached_count_lem, wrong_ranks, ranks_after, unready_ranks, judging, checking}
use Rattle.order.specs.Theorems as theorems
use Rattle.order.specs.Theorems.{no_place, repeated, ranked, RightAt, WrongRankAt, UnreadyAt, Called, EntriesRight, Begun, OrderChecked, ChecksEach}
use Rattle.order.proofs.Entries.{Right, Wrong, entry_right, none_wrong, first-wrong, wrong_first}
use Rattle.std.specs.Prelude.{Some}
use Rattle.order.proofs.First.{first_is}
use Rattle.order.proofs.After.{none_ranked, all_none, first_ranked, ranked_first}
use Rattle.order.proofs.Answers.{is_14, is_15, is_17, is_18, is_19, is_20, is_0}
use Rattle.order.proofs.Decided.{Proposed, unsound, outside, other_length, wrong_entry, ranked_after, other_first, unready, judged}
use Rattle.order.proofs.Orders.{few_reached, holds_exact, unready_at, at_unready}

module _ (t : Topology) (d : ℕ) (order : List ℕ) where
  abbrev reach : ℕ
  reach = reached_count_lem (network_of t) d

  -- what is right in the reached ranks by themselves, and what is after them, is right
  module _ (called : Called t d) (long : length order ≡ t.routers) where
    few : reach ≤ t.routers
    few = few_reached t called.is-sound d called.place

    part_long : length (take reach order) ≡ reach
    part_long = length-take-le reach order (omega (arith, few))

    at_part : (r : ℕ) → r < reach → (get_or (take reach order) r 0 ≡ get_or order r 0) × (take r (take reach order) ≡ take r order)
    at_part r h = (get_or-take reach order r 0 h, take-take r reach order (omega arith))

    right_at : (r : ℕ) → (r < reach → Right t.routers (take reach order) r) → (reach ≤ r → get_or order r 0 ≡ 255) → RightAt t d order r
    right_at r inner outer =
        record {
          place = λ h. rw (at_part r h).0 at (inner h).0;
          fresh = λ h. rw ((at_part r h).0, (at_part r h).1) at (inner h).1;
          after = outer;
        }

    right_in : (r : ℕ) → RightAt t d order r → r < reach → Right t.routers (take reach order) r
    right_in r a h = (rw (at_part r h).0 (a.place h), rw ((at_part r h).0, (at_part r h).1) (a.fresh h))

    entries_right : wrong_ranks t.routers (take reach order) ≡ [] → (r : ℕ) → r < reach → Right t.routers (take reach order) r
    entries_right once r h = entry_right t.routers (take reach order) once r (omega (arith, part_long))

    pub all_right : wrong_ranks t.routers (take reach order) ≡ [] → ranks_after reach order ≡ [] → EntriesRight t d order
    all_right once after =
        record {
          sized = record { called = called; long = long };
          right = λ r k. right_at r (entries_right once r) (λ h. none_ranked order reach after r h k);
        }

    -- 18 is of the reached ranks, or of those after them
    pub wrong_part : (r : ℕ) (rest : List ℕ) → wrong_ranks t.routers (take reach order) ≡ r ∷ rest → WrongRankAt t d order r
    wrong_part r rest e =
        let (within, wrong, earlier) = first-wrong t.routers (take reach order) r rest e in
        let h : r < reach = omega (arith, part_long) in
        record {
          within = omega (arith, few);
          wrong = ⊎_elim (λ out. no_place h (rw (at_part r h).0 at out)) (λ k. repeated h (rw ((at_part r h).0, (at_part r h).1) at k)) wrong;
          earlier = λ k b. right_at k (λ l. earlier k b) (λ l. absurd (omega arith));
        }

    pub wrong_after : (r : ℕ) (rest : List ℕ) → wrong_ranks t.routers (take reach order) ≡ [] → ranks_after reach order ≡ r ∷ rest → WrongRankAt t d order r
    wrong_after r rest once e =
        let (least, within, out, earlier) = first_ranked order reach r rest e in
        record { within = within; wrong = ranked least out; earlier = λ k b. right_at k (entries_right once k) (λ l. earlier k l b) }

    part_right : ((r : ℕ) → r < length order → RightAt t d order r) → wrong_ranks t.routers (take reach order) ≡ []
    part_right right =
        none_wrong t.routers (take reach order)
        (λ r h. let inside : r < reach = omega (arith, part_long) in right_in r (right r (omega (arith, few))) inside)

    pub says_wrong : (m : Mode) (r : ℕ) → WrongRankAt t d order r → answer 18 r ≡ judging t d m order
    says_wrong m r w = cases w.wrong
      where
        of_part : (h : r < reach) → Wrong t.routers (take reach order) r → answer 18 r ≡ judging t d m order
        of_part h wrong =
            wrong_entry t d m order long r
            (sym (first_is _ r (wrong_first t.routers (take reach order) (suc r) r (omega (arith, part_long)) wrong (λ k b. right_in k (w.earlier k b) (omega arith)))))

        cases : theorems.Wrong t d order r → answer 18 r ≡ judging t d m order
        cases (no_place h out) = of_part h (inl (rw (at_part r h).0 out))
        cases (repeated h k) = of_part h (inr (rw ((at_part r h).0, (at_part r h).1) k))
        cases (ranked h out) =
            ranked_after t d m order long
            (none_wrong t.routers (take reach order)
            (λ k l. let inside : k < reach = omega (arith, part_long) in right_in k (w.earlier k (omega arith)) inside)) r
            (sym (first_is _ r (ranked_first order reach (suc r) r h w.within out (λ k l b. (w.earlier k b).after l))))

  none_there : (a : EntriesRight t d order) → (wrong_ranks t.routers (take reach order) ≡ []) × (ranks_after reach order ≡ [])
  none_there a = (
    part_right a.sized.called a.sized.long a.right,
    all_none order reach (λ r h k. (a.right r k).after h),
  )

  begun : Proposed t d order → Begun t d order
  begun p =
      record { entries = all_right (record { is-sound = p.on_sound; place = p.place }) p.long p.once p.none_after; first = p.first }

  proposed : Begun t d order → Proposed t d order
  proposed b =
      let l = b.entries.sized in
      let (once, after) = none_there b.entries in
      record { on_sound = l.called.is-sound; place = l.called.place; long = l.long; once = once; none_after = after; first = b.first }

  -- 20 is of the reached ranks
  unready_in : (m : Mode) → Proposed t d order → (r : ℕ) (rest : List ℕ) → unready_ranks (network_of t) d (mode_of m) (take reach order) ≡ r ∷ rest →
      UnreadyAt t d (mode_of m) order r
  unready_in m p r rest e =
      let (least, within, out, earlier) = unready_at t p.on_sound d p.place m (take reach order) r rest e in
      let called : Called t d = record { is-sound = p.on_sound; place = p.place } in
      let h : r < reach = omega (arith, part_long called p.long) in
      record {
        not_first = least;
        within = h;
        unready = rw ((at_part called p.long r h).0, (at_part called p.long r h).1) at out;
        earlier = λ k a b.
            let l : k < reach = omega arith in
            rw ((at_part called p.long k l).0, (at_part called p.long k l).1) at (earlier k a b);
      }

  in_unready : (m : Mode) → Begun t d order → (r : ℕ) → UnreadyAt t d (mode_of m) order r →
      Some r ≡ first_of (unready_ranks (network_of t) d (mode_of m) (take reach order))
  in_unready m b r w =
      let s = b.entries.sized in
      sym
      (first_is _ r
      (at_unready t s.called.is-sound d s.called.place m (take reach order) (suc r) r w.not_first
      (omega (arith, w.within, part_long s.called s.long))
      (rw ((at_part s.called s.long r w.within).0, (at_part s.called s.long r w.within).1) w.unready)
      (λ k a l.
      let h : k < reach = omega (arith, w.within) in
      rw ((at_part s.called s.long k h).0, (at_part s.called s.long k h).1) (w.earlier k a l))))

  -- where 14 and 15 pass, the tests after them answer
  judges : (m : Mode) {x : Answer} → Called t d → x ≡ judging t d m order → checking t d m order ≡ x
  judges m c e = sym (e ∙ judged t d m order c.is-sound c.place)

  module _ (m : Mode) (at : ℕ) where
    checked : OrderChecked t d m (mode_of m) order at
    checked =
        record {
          says_14 = (is_14 t d m order at, λ (e, out). unsound t d m order out ∙ ap (answer 14) (sym e));
          says_15 = (
            λ e. let (s, there, out) = is_15 t d m order at e in (there, s, ltb-false d t.routers (as_false (ltb d t.routers) out)),
            λ (e, s, h). outside t d m order s h ∙ ap (answer 15) (sym e),
          );
          says_17 = (
            λ e.
                let (s, h, there, out) = is_17 t d m order at e in
                (there, record { is-sound = s; place = h }, λ l. out (rw (eq-eqb (length order) t.routers l) tt)),
            λ (e, c, out). judges m c (other_length t d m order out) ∙ ap (answer 17) (sym e),
          );
          says_18 = (
            λ e.
                let (s, h, l, found) = is_18 t d m order at e in
                let called : Called t d = record { is-sound = s; place = h } in (
                  record { called = called; long = l },
                  ⊎_elim (λ (rest, ranks). wrong_part called l at rest ranks) (λ (once, (rest, ranks)). wrong_after called l at rest once ranks) found,
                ),
            λ (l, w). judges m l.called (says_wrong l.called l.long m at w),
          );
          says_19 = (
            λ e.
                let (s, h, l, once, after, there, out) = is_19 t d m order at e in
                (there, all_right (record { is-sound = s; place = h }) l once after, λ first. out (rw (eq-eqb (get_or order 0 0) d first) tt)),
            λ (e, a, out).
                let (once, after) = none_there a in
                judges m a.sized.called (other_first t d m order a.sized.long once after out) ∙ ap (answer 19) (sym e),
          );
          says_20 = (
            λ e. let (p, (rest, ranks)) = is_20 t d m order at e in (begun p, unready_in m p at rest ranks),
            λ (b, w). judges m b.entries.sized.called (unready t d m order (proposed b) at (in_unready m b at w)),
          );
          says_0 = (
            λ e.
                let (there, p, none) = is_0 t d m order at e in
                (there, record { is-sound = p.on_sound; place = p.place }, (holds_exact t p.on_sound d p.place m order).0 (e ∙ ap (answer 0) there)),
            λ (e, c, a). (holds_exact t c.is-sound d c.place m order).1 a ∙ ap (answer 0) (sym e),
          );
        }

pub checks_each : ChecksEach
unfolding mode_of
checks_each t d order at = record { in_shortest_path = checked t d order mode.ShortestPath at; in_free = checked t d order mode.Free at }
