-- Candidates are known by their standings, and the router that is selected stands highest.
-- Assumes nothing.
use Prim.Native.Nat.{ℕ, ◌+◌, ◌*◌, ◌%◌, ◌≤◌, ◌<◌}
use mathlib.Core.Bool.{not}
use mathlib.Core.List.{List, Memᴰ}
use mathlib.Core.Logic.{◌≢◌, ⊎_elim}
use mathlib.Core.Option.{Option, none, some}
use mathlib.Core.Path.{◌≡◌, refl, sym, ◌∙◌, ap, subst}
use native.Mathlib.Decide.{dec_lt, ℕ_discrete}
use native.Mathlib.Omega.{arith}
use borrow.Author.Tests.{lt-ltb, eq-eqb, eqb-true, le-leb, lt-leb}
use lib.Dec.{T, eqb, ltb, leb}
use lib.ListN.{length, get_or}
use Rattle.network.specs.Lists.{member}
use Rattle.network.specs.Network.{Network, size, id_of, arcs_of, WellFormed}
use Rattle.network.specs.Distance.{PathTo, along, distances}
use Rattle.network.specs.Order.{shortest-path, free, reached, ready, candidate, leads_into, shortest_next_hops, placed_neighbours, select}
use Rattle.network.specs.Theorems.Order.{Candidate, Behind}
use Rattle.network.proofs.Tests.{three, and_three, as_true, as_false}
use Rattle.network.proofs.Lists.{member_mem, mem_member, keep_mem}
use Rattle.network.proofs.Distance.{starts_in}
use Rattle.network.proofs.NextHop.{path_reached}
use Rattle.network.proofs.Candidate.{candidate_fact, fact_candidate, also_free}
use Rattle.network.proofs.Selection.{selection_right}
use Rattle.order_standings.specs.declared.Mode.{Mode}
use Rattle.order_standings.specs.declared.Mode.TheVariants as mode
use Rattle.order.specs.Calls.{mode_of}
use Rattle.order_standings.specs.Inner.{waits_for, Highest}
use Rattle.order_standings.proofs.Keeping.{kept_some, every_kept, any_kept}
use Rattle.order_standings.proofs.Counting.{waiting, neighbours_most}
use Rattle.order_standings.proofs.Kept.{Kept, placed_or}
use Rattle.order_standings.proofs.Ties.{some_length}

module _ {n : Network} (formed : WellFormed n) {d : ℕ} (d_in : d < size n) {m : Mode} {lower placed keys : List ℕ}
    (few : (u : ℕ) → u < size n → length (arcs_of n u) ≤ 16) (small : (u : ℕ) → u < size n → get_or lower u 0 < 64)
    (k : Kept n (distances n d) m lower placed keys) where
  abbrev ds : List ℕ
  ds = distances n d

  near_few : (u : ℕ) → u < size n → placed_neighbours n placed u ≤ 16
  near_few u h = omega (arith, neighbours_most n placed u, few u h)

  -- what a candidate is by the counters
  pub record Ready (u : ℕ) : Type 0 where
    pub unplaced : Memᴰ u placed → ⊥
    pub waits : waits_for m (waiting n ds placed u) ≡ 0

  unplaced_out : (u : ℕ) → T (not (member u placed)) → Memᴰ u placed → ⊥
  unplaced_out u t l = subst T (ap not (as_true (member u placed) (mem_member u placed l))) t

  out_unplaced : (u : ℕ) → (Memᴰ u placed → ⊥) → T (not (member u placed))
  out_unplaced u out = subst T (sym (ap not (as_false (member u placed) (λ t. out (member_mem u placed t))))) tt

  ready_shortest : (u : ℕ) → ready n ds shortest-path placed u ≡ eqb (waiting n ds placed u) 0
  unfolding ready
  ready_shortest u = sym (every_kept (leads_into placed) (shortest_next_hops n ds u))

  ready_free : (u : ℕ) → ready n ds free placed u ≡ ltb 0 (placed_neighbours n placed u)
  unfolding ready placed_neighbours
  ready_free u = sym (any_kept (leads_into placed) (arcs_of n u))

  pub to_ready : (u : ℕ) → T (candidate n ds (mode_of m) placed u) → Ready u
  unfolding candidate mode_of waits_for
  to_ready u t =
      let (_, out, r) = three (reached n ds u) (not (member u placed)) (ready n ds (mode_of m) placed u) t in
      record { unplaced = unplaced_out u out; waits = waits m refl r }
    where
      waits : (w : Mode) → m ≡ w → T (ready n ds (mode_of m) placed u) → waits_for m (waiting n ds placed u) ≡ 0
      waits mode.ShortestPath e r =
          rw e (eqb-true _ _ (as_true _ (subst T (ready_shortest u) (subst (λ (w : Mode). T (ready n ds (mode_of w) placed u)) e r))))
      waits mode.Free e r = rw e

  -- a router that stands at 17408 or more is not placed, and waits for none
  pub stands : (u : ℕ) → u < size n → 17408 ≤ get_or keys u 0 → (Memᴰ u placed → ⊥) × (waits_for m (waiting n ds placed u) ≡ 0)
  stands u h high =
      placed_or u placed (λ l. absurd (omega (arith, k.low u h l, near_few u h)))
      (λ out. (out, omega (arith, k.unplaced u h out, near_few u h, small u h)))

  -- no standing is as high as 2^15
  pub keys_low : (u : ℕ) → u < size n → get_or keys u 0 < 32768
  keys_low u h =
      placed_or u placed (λ l. omega (arith, k.low u h l, near_few u h)) (λ out. omega (arith, k.unplaced u h out, near_few u h, small u h))

  -- a candidate stands as many above it as it has placed neighbours, and lower IDs
  height : (u : ℕ) → u < size n → (Memᴰ u placed → ⊥) → waits_for m (waiting n ds placed u) ≡ 0 →
      get_or keys u 0 ≡ 17408 + placed_neighbours n placed u * 64 + get_or lower u 0
  height u h out ready = omega (arith, k.unplaced u h out)

  -- Where d is placed, and each that is placed has a path, a router with a placed neighbour has one too, and a candidate has a placed neighbour.
  module _ (first : Memᴰ d placed) (paths : (u : ℕ) → Memᴰ u placed → PathTo n d u) where
    near_path : (u : ℕ) → 1 ≤ placed_neighbours n placed u → PathTo n d u
    unfolding placed_neighbours leads_into
    near_path u h =
        let (a, l, t) = kept_some (leads_into placed) (arcs_of n u) h in along a l (paths a.to (member_mem a.to placed t))

    near_one : (u : ℕ) → T (candidate n ds (mode_of m) placed u) → 1 ≤ placed_neighbours n placed u
    unfolding mode_of placed_neighbours leads_into
    near_one u t = cases m refl
      where
        cases : (w : Mode) → m ≡ w → 1 ≤ placed_neighbours n placed u
        cases mode.ShortestPath e =
            let c = subst (λ (x : Mode). Candidate n d (mode_of x) placed u) e (candidate_fact n formed d d_in (mode_of m) placed u t) in
            let (a, l, o) = (also_free n formed d d_in placed u first c).next_hops in
            some_length (keep_mem (leads_into placed) (arcs_of n u) l (mem_member a.to placed o))
        cases mode.Free e =
            let c = subst (λ (x : Mode). Candidate n d (mode_of x) placed u) e (candidate_fact n formed d d_in (mode_of m) placed u t) in
            let (a, l, o) = c.next_hops in
            some_length (keep_mem (leads_into placed) (arcs_of n u) l (mem_member a.to placed o))

    from_ready : (u : ℕ) → Ready u → 1 ≤ placed_neighbours n placed u → T (candidate n ds (mode_of m) placed u)
    unfolding candidate mode_of waits_for
    from_ready u r near =
        and_three (reached n ds u) (not (member u placed)) (ready n ds (mode_of m) placed u)
        (path_reached n formed d d_in (near_path u near)) (out_unplaced u r.unplaced) (by_mode m refl)
      where
        by_mode : (w : Mode) → m ≡ w → T (ready n ds (mode_of m) placed u)
        by_mode mode.ShortestPath e =
            let waits-none : waiting n ds placed u ≡ 0 = rw e at r.waits in
            subst (λ (w : Mode). T (ready n ds (mode_of w) placed u)) (sym e) (subst T (sym (ready_shortest u ∙ eq-eqb _ _ waits-none)) tt)
        by_mode mode.Free e =
            subst (λ (w : Mode). T (ready n ds (mode_of w) placed u)) (sym e) (subst T (sym (ready_free u ∙ lt-ltb _ _ near)) tt)

    -- candidates are those that stand at 17472 or more
    pub candidate_stands : (u : ℕ) → u < size n → leb 17472 (get_or keys u 0) ≡ candidate n ds (mode_of m) placed u
    candidate_stands u h = cases (dec_lt (get_or keys u 0) 17472)
      where
        cases : Dec (get_or keys u 0 < 17472) → leb 17472 (get_or keys u 0) ≡ candidate n ds (mode_of m) placed u
        cases (yes less) =
            lt-leb 17472 (get_or keys u 0) less
            ∙ sym (as_false (candidate n ds (mode_of m) placed u) (λ t.
            let r = to_ready u t in omega (arith, height u h r.unplaced r.waits, near_one u t)))
        cases (no more) =
            let (out, waits) = stands u h (omega arith) in
            le-leb 17472 (get_or keys u 0) (omega arith)
            ∙ sym
            (as_true (candidate n ds (mode_of m) placed u)
            (from_ready u (record { unplaced = out; waits = waits }) (omega (arith, height u h out waits, small u h))))

    -- where the highest stands below that, none is selected; else one is, and it stands highest
    pub none_selected : {best : ℕ} → Highest keys (size n) best → best < 17472 → select n ds (mode_of m) placed ≡ none
    none_selected {best} top low = cases (select n ds (mode_of m) placed) refl
      where
        cases : (o : Option ℕ) → select n ds (mode_of m) placed ≡ o → select n ds (mode_of m) placed ≡ none
        cases none e = e
        cases (some w) e =
            let taken = (selection_right n formed d d_in (mode_of m) placed).taken w e in
            let w-in = starts_in n formed d d_in taken.path in
            let stands-low = lt-leb 17472 (get_or keys w 0) (omega (arith, top.most w w-in)) in
            absurd (subst T (sym (candidate_stands w w-in) ∙ stands-low) (fact_candidate n formed d d_in (mode_of m) placed w taken))

    pub some_selected : {best : ℕ} → Highest keys (size n) best → 17472 ≤ best → (w : ℕ) × (select n ds (mode_of m) placed ≡ some w)
    some_selected {best} top high = cases (select n ds (mode_of m) placed) refl
      where
        cases : (o : Option ℕ) → select n ds (mode_of m) placed ≡ o → (w : ℕ) × (select n ds (mode_of m) placed ≡ some w)
        cases none e =
            let (v, v_in, same) = top.one in
            let c = subst T (sym (le-leb 17472 (get_or keys v 0) (omega arith)) ∙ candidate_stands v v_in) tt in
            absurd ((selection_right n formed d d_in (mode_of m) placed).stuck e v (candidate_fact n formed d d_in (mode_of m) placed v c))
        cases (some w) e = (w, e)

    -- the one that is selected stands highest
    pub highest_selected : ((u v : ℕ) → u < size n → v < size n → id_of n u < id_of n v → get_or lower u 0 < get_or lower v 0) → {w best : ℕ} →
        select n ds (mode_of m) placed ≡ some w → Highest keys (size n) best → best % 64 ≡ get_or lower w 0
    highest_selected higher {w} {best} e top =
        let right = selection_right n formed d d_in (mode_of m) placed in
        let taken = right.taken w e in
        let w-in = starts_in n formed d d_in taken.path in
        let c = fact_candidate n formed d d_in (mode_of m) placed w taken in
        let r = to_ready w c in
        let (v, v_in, same) = top.one in
        let at-w = height w w-in r.unplaced r.waits in
        let over = top.most w w-in in
        let (out, waits) = stands v v_in (omega arith) in
        let at-v = height v v_in out waits in
        let at_least : placed_neighbours n placed w ≤ placed_neighbours n placed v = omega (arith, small v v_in) in
        let candidate = candidate_fact n formed d d_in (mode_of m) placed v
        (from_ready v (record { unplaced = out; waits = waits }) (omega (arith, near_one w c))) in
        cases at-w at-v over same w-in v_in (λ apart. right.others w e v candidate apart) (ℕ_discrete v w)
      where
        cases : {v : ℕ} → get_or keys w 0 ≡ 17408 + placed_neighbours n placed w * 64 + get_or lower w 0 →
            get_or keys v 0 ≡ 17408 + placed_neighbours n placed v * 64 + get_or lower v 0 → get_or keys w 0 ≤ best → get_or keys v 0 ≡ best → w < size n → v < size n →
            (v ≢ w → Behind n placed v w) → Dec (v ≡ w) → best % 64 ≡ get_or lower w 0
        cases at-w at-v over same w-in v_in behind (yes e') =
            let same_key = subst (λ (x : ℕ). get_or keys x 0 ≡ best) e' same in
            omega (arith, small w w-in)
        cases at-w at-v over same w-in v_in behind (no apart) =
            absurd
            (⊎_elim (λ fewer. omega (arith, small _ v_in)) (λ (as_many, below). omega (arith, higher _ w v_in w-in below)) (behind apart))
