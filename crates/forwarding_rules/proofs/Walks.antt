-- Walks of a system that obeys the laws are its forwarding's over the rows of the run. At every hop the hops made and the rank left are together at most the
-- rows that a run has, so that no single hop is refused and each has its row. What the hops cost is what the entries of the route cost.
-- Assumes nothing.
use Prim.Native.Nat.{ℕ, suc, ◌+◌, ◌≤◌, ◌<◌}
use mathlib.Core.List.Memᴰ
use mathlib.Core.List.{List, [], ◌∷◌}
use mathlib.Core.Logic.{◌⊎◌, inl, inr}
use mathlib.Core.Option.{some}
use mathlib.Core.Path.{◌≡◌, refl, sym, ap, ◌∙◌, subst}
use native.Mathlib.Numerals.{add-one}
use native.Mathlib.Omega.{arith}
use lib.Dec.{T}
use lib.ListN.{length, drop}
use lib.Seq.{drop-drop}
use Rattle.network.specs.Forwarding.{Forwarding, Packet, Hop, dropped, Walk, delivered_at, dropped_at, hop, walk, route_on, route, start}
use Rattle.network.specs.Theorems.Forwarding.{WalkRule, RouteRule}
use Rattle.network.proofs.Tests.{truth, as_false}
use Rattle.network.proofs.Hops as hops
use Rattle.network.proofs.Hops.{Hopped, stays_home, stuck, went, hopped}
use Rattle.network.proofs.Forwarding.{walks_exact}
use Rattle.forwarding_rules.specs.Calls.{done}
use Rattle.forwarding_rules.specs.System.{System}
use Rattle.forwarding_rules.specs.Theorems.Demand3 as of
use Rattle.forwarding_rules.specs.Theorems.Demand3.{FigureExact, WalkEnds, ByHops, arrives, goes_on, WalkCosts, CutOff}
use Rattle.forwarding_rules.specs.Inner.{Laws}

-- off home a route goes to the entry chosen
route-on : (f : Forwarding) (x : f.States) (xs : List f.States) (st : f.State) (e : f.Entry) → (T (f.home st) → ⊥) → f.choose x st ≡ some e →
    route f (x ∷ xs) st ≡ e ∷ route f xs (f.next e)
unfolding route route_on
route-on f x xs st e off c = rw (as_false (f.home st) off, c)

module _ (s : System) (l : Laws s) where
  abbrev f : Forwarding
  f = s.forwarding

  -- how a walk ended
  data Ended (run : s.Run) : Walk f.State → Type 0 where
    delivers : (p : Packet f.State) → s.at_destination p.station → Ended run (delivered_at p)
    drops : (p : Packet f.State) → (s.at_destination p.station → ⊥) → s.has_row run p.hops → s.none_up (s.row_of run p.hops) p.station →
        Ended run (dropped_at p)
    drops_rowless : (p : Packet f.State) → (s.at_destination p.station → ⊥) → (s.has_row run p.hops → ⊥) → s.rowless p.station →
        Ended run (dropped_at p)

  module _ (run : s.Run) (sound : s.sound_run run) where
    abbrev xs : List f.States
    xs = l.rows-in run

    abbrev Went : Packet f.State → Walk f.State → ℕ → Type 0
    Went p w cost = ByHops s run p w cost × Ended run w

    -- an end and a cost under other names
    renamed : {p : Packet f.State} {w v : Walk f.State} {j k : ℕ} → w ≡ v → j ≡ k → Went p w j → Went p v k
    renamed {p} {w} {v} {j} e g h = subst (Went p v) g (subst (λ (x : Walk f.State). Went p x j) e h)

    -- from a packet whose hops made and rank left are at most the rows, of which enough are left for the rank
    by_hops : (ys : List f.States) (p : Packet f.State) → drop p.hops xs ≡ ys → l.inside p.station →
        p.hops + l.rank p.station ≤ l.rows → l.rank p.station ≤ length ys → Went p (walk f ys p) (l.cost-of (route f ys p.station))
    by_hops [] p left in-it few enough = step (truth (f.home p.station))
      where
        any : f.States
        any = l.lawful.some_valid.0

        stands : s.may_stand p
        stands = l.admitted p in-it few

        free : 0 ≡ l.cost-of (route f [] p.station)
        free = sym (ap l.cost-of (hops.routes_by_hops f any [] p).ends ∙ l.no_cost)

        step : T (f.home p.station) ⊎ (T (f.home p.station) → ⊥) → Went p (walk f [] p) (l.cost-of (route f [] p.station))
        step (inl h) =
            let home = (l.home_is p stands).0 h in
            renamed (sym ((hops.walks_by_hops f any [] p).arrives h)) free (arrives p home, delivers p home)
        step (inr off) =
            let (e, none_left, empty) = l.row_past run sound p left in-it (omega arith) off in
            let other : s.at_destination p.station → ⊥ = λ home. off ((l.home_is p stands).1 home) in
            renamed (sym e) free (of.ByHops.drops_rowless p other none_left empty, drops_rowless p other none_left empty)
    by_hops (x ∷ ys) p left in-it few enough = step refl (hopped f x p) (by_hops ys)
      where
        rule : WalkRule f x ys p
        rule = hops.walks_by_hops f x ys p

        took : RouteRule f x ys p
        took = hops.routes_by_hops f x ys p

        stands : s.may_stand p
        stands = l.admitted p in-it few

        there : s.has_row run p.hops × s.sound_states (s.row_of run p.hops) × (x ≡ s.row_of run p.hops)
        there = l.row_there run sound p.hops x ys left

        here : s.hopping (s.row_of run p.hops) p ≡ done (hop f x p)
        here = rw there.2 (l.hops (s.row_of run p.hops) p stands there.1)

        step : {h : Hop f.State} → hop f x p ≡ h → Hopped f x p h →
            ((q : Packet f.State) → drop q.hops xs ≡ ys → l.inside q.station → q.hops + l.rank q.station ≤ l.rows →
            l.rank q.station ≤ length ys → Went q (walk f ys q) (l.cost-of (route f ys q.station))) →
            Went p (walk f (x ∷ ys) p) (l.cost-of (route f (x ∷ ys) p.station))
        step is (stays_home h) rest =
            let home = (l.home_is p stands).0 h in
            renamed (sym (rule.delivers is)) (sym (ap l.cost-of (took.stops (inl is)) ∙ l.no_cost)) (arrives p home, delivers p home)
        step is (stuck off c) rest =
            let down = (l.chooses_none (s.row_of run p.hops) p stands there.1).0 (rw there.2 at c) in
            renamed (sym (rule.drops is)) (sym (ap l.cost-of (took.stops (inr is)) ∙ l.no_cost))
            (of.ByHops.drops p (here ∙ ap done is), drops p (λ home. off ((l.home_is p stands).1 home)) there.0 down)
        step is (went off e c) rest =
            let q : Packet f.State = record { station = f.next e; hops = suc p.hops } in
            let m = l.lawful.chosen x p.station e c in
            let lower = l.lawful.falls p.station e m in
            let (cost, costs, adds) = l.one_more p.station in-it e (route f ys (f.next e)) m in
            let (on, end) = rest q (subst (λ (n : ℕ). drop n xs ≡ ys) (add-one p.hops) (sym (drop-drop 1 p.hops xs) ∙ ap (drop 1) left))
            (l.stays p.station in-it e m) (omega arith) (omega arith) in
            renamed (sym (rule.goes_on q is)) (sym (ap l.cost-of (route-on f x ys p.station e off c) ∙ adds))
            (goes_on p q _ cost _ (here ∙ ap done is) costs on, end)

    -- from a start
    module _ (u : ℕ) (place : u < s.places) where
      abbrev walked : Walk f.State
      walked = walk f xs (start (s.standing u))

      from_start : Went (record { station = s.standing u; hops = 0 }) walked (l.cost-of (route f xs (s.standing u)))
      unfolding start
      from_start =
          let (in-it, low) = l.starts u place in
          by_hops xs (start (s.standing u)) refl in-it (omega arith) (omega (arith, l.enough run sound))

      pub end : WalkEnds s u run
      end = step (l.walks u place run sound) from_start.1
        where
          step : {w : Walk f.State} → s.walking u run ≡ done w → Ended run w → WalkEnds s u run
          step e (delivers p home) = of.WalkEnds.delivers p e home
          step e (drops p off row down) = of.WalkEnds.drops p e off row down
          step e (drops_rowless p off none_left empty) = of.WalkEnds.drops_rowless p e off none_left empty

      pub hop_by_hop : (w : Walk f.State) → s.walking u run ≡ done w →
          ByHops s run (record { station = s.standing u; hops = 0 }) w (l.cost-of (route f xs (s.standing u)))
      hop_by_hop w e =
          subst (λ (v : Walk f.State). ByHops s run (record { station = s.standing u; hops = 0 }) v (l.cost-of (route f xs (s.standing u))))
          (cc (l.walks u place run sound)) from_start.0

      -- a walk that is delivered costs what its route does
      pub costs : (p : Packet f.State) → walked ≡ delivered_at p → s.at_destination p.station → WalkCosts s u run (l.cost-of (route f xs (s.standing u)))
      costs p e home =
          let delivers : s.walking u run ≡ done (delivered_at p) = l.walks u place run sound ∙ ap done e in
          record { end = p; delivers = delivers; there = home; adds_up = hop_by_hop (delivered_at p) delivers }

  module _ (u : ℕ) (place : u < s.places) where
    pub figure : s.reached u → FigureExact s u
    figure path =
        let x = walks_exact f l.rank l.valid l.lawful l.rows (s.standing u) (l.starts u place).1 in
        let is = l.figure_reached u place path in
        let (xs, long, valid, reach) = x.reached l.rows (l.starts u place).1 in
        let (run, least, sound, are) = l.run_of xs long valid in
        record {
          never_passed = λ run w e.
              let (h, sound) = l.walks_only u run w e in
              let same : walk f (l.rows-in run) (start (s.standing u)) ≡ w = cc (l.walks u place run sound) in
              rw (← same, is) (x.never_passed (l.rows-in run));
          reached = (run, least, (walk f xs (start (s.standing u)), rw are at (l.walks u place run sound), rw is reach));
          at_most_rank = omega (arith, is, x.at_most_rank, l.within_bound u place path);
        }

    -- where there is no path the row is empty off home, so a hop drops the packet, and so does a walk, if no row is there for its first hop too
    module _ (out : s.reached u → ⊥) where
      drops_there : (x : f.States) (p : Packet f.State) → p.station ≡ s.standing u → hop f x p ≡ dropped
      drops_there x p e = step (hopped f x p)
        where
          step : {h : Hop f.State} → Hopped f x p h → h ≡ dropped
          step (stays_home h) = absurd ((l.row_unreached u place out).1 (rw e at h))
          step (stuck off c) = refl
          step (went off y c) = absurd (Memᴰ.not-nil (rw (e, (l.row_unreached u place out).0) at (l.lawful.chosen x p.station y c)))

      first_drops : (run : s.Run) → s.sound_run run → (ys : List f.States) → l.rows-in run ≡ ys →
          walk f ys (start (s.standing u)) ≡ dropped_at (record { station = s.standing u; hops = 0 })
      unfolding start
      first_drops run sound [] e =
          let (in-it, low) = l.starts u place in
          (l.row_past run sound (start (s.standing u)) e in-it (omega (arith, l.enough run sound, ap length e)) (l.row_unreached u place out).1).0
      first_drops run sound (x ∷ ys) e = (hops.walks_by_hops f x ys (start (s.standing u))).drops (drops_there x (start (s.standing u)) refl)

      pub cut-off : CutOff s u
      cut-off =
          record {
            figure_is = l.figure_unreached u place out;
            walks = λ run sound. l.walks u place run sound ∙ ap done (first_drops run sound (l.rows-in run) refl);
            hops = λ x p e stands sound. l.hops x p stands sound ∙ ap done (drops_there x p e);
          }
