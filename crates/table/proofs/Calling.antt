-- What the functions that fill and check rest on: an order that judging lets through has accepted ranks and can be filled, and each test of a table that fails
-- is what `table_judging` answers.
-- Assumes nothing.
use Prim.Native.Nat.{ℕ, ◌+◌, ◌*◌, ◌≤◌, ◌<◌}
use mathlib.Core.Bool.{Bool}
use mathlib.Core.List.{List, [], ◌∷◌, Memᴰ}
use mathlib.Core.Logic.{⊎_elim}
use mathlib.Core.Path.{◌≡◌, refl, sym, ap, ◌∙◌}
use native.Mathlib.Omega.{arith}
use borrow.Author.Tests.{eq-eqb, ne_eqb}
use lib.Dec.{T, eqb, ltb, eqb→eq}
use lib.ListN.{length, get_or, take, length-take}
use Rattle.network.specs.Lists.{below, keep, every}
use Rattle.network.proofs.Below.{mem_below, below_lt}
use Rattle.network.proofs.Lists.{every_all}
use Rattle.network.specs.Network.{Network, WellFormed, size}
use Rattle.network.specs.Order.{shortest-path, free, build, accepted}
use Rattle.network.specs.Theorems.Order.{Accepted}
use Rattle.network.proofs.Tests.{both, and, truth, as_true, as_false}
use Rattle.network.proofs.Order.{acceptance_exact, built_accepted, shortest_path_is_free}
use Rattle.std.proofs.Common.{Some, None}
use Rattle.topology_types.specs.Outcome.{answer}
use Rattle.topology_types.specs.declared.Answer.{Answer}
use Rattle.topology_types.specs.declared.Topology.{Topology}
use Rattle.topology_types.specs.Topology.{network_of}
use Rattle.topology_sound.specs.Sound.{sound}
use Rattle.topology_sound.proofs.Sound.{sound_networks}
use Rattle.arcs.specs.declared.Arcs.{Arcs}
use Rattle.arcs.specs.Inner.{Laid}
use Rattle.order_standings.specs.declared.Mode.{Mode}
use Rattle.order_standings.specs.declared.Mode.TheVariants as mode
use Rattle.order.specs.Calls.{mode_of, reached_count_lem, order_bytes, refused_at_first, judging, checking}
use Rattle.distances.specs.Inner.{Settled}
use Rattle.order.proofs.Answers.{is_0}
use Rattle.order.proofs.Decided.{judged, first_found, none_found}
use Rattle.order.proofs.Orders.{exact, checks}
use Rattle.order.proofs.Reached.{accepted_long}
use Rattle.table_rows.specs.Layout.{row_start_lem, table_length, number_at}
use Rattle.table_rows.specs.Bytes.{rank_or_none}
use Rattle.table_rows.specs.Inner.{Fillable}
use Rattle.table_rows.proofs.RankBytes.{accepted_ranked}
use Rattle.table.specs.Listed.{layout_of, destination_in_lem, rank_in_lem, by_rank, order_in}
use Rattle.table.specs.Calls.{sound_header, sound_ranks, wrong_bytes, table_judging, right_ranks}
use Rattle.table.specs.Inner.{first_wrong_lem}
use Rattle.table.specs.Theorems.{TableIs}
use Rattle.table.proofs.Ordered.{long, as_byte}
use Rattle.table.proofs.Accepting.{starts?, its_places, its_ranks}

every_same : {A : Type 0} (f g : A → Bool) (xs : List A) → ((x : A) → Memᴰ x xs → f x ≡ g x) → every f xs ≡ every g xs
every_same f g [] same = refl
every_same f g (x ∷ xs) same = rw (same x (Memᴰ.head refl), every_same f g xs (λ y m. same y (Memᴰ.tail m)))

built_either : (n : Network) → WellFormed n → (d : ℕ) → d < size n → (m : Mode) → T (accepted n d free (build n d (mode_of m)))
unfolding mode_of
built_either n wf d inside mode.ShortestPath = shortest_path_is_free n wf d inside _ (built_accepted n wf d inside shortest-path)
built_either n wf d inside mode.Free = built_accepted n wf d inside free

module _ (t : Topology) (is-sound : T (sound t)) (d : ℕ) (place : d < t.routers) where
  -- judging is checking, once 14 and 15 pass
  same : (order : List ℕ) → judging t d mode.Free order ≡ checking t d mode.Free order
  same order = judged t d mode.Free order is-sound place

  -- number 0 is the answer that accepts
  pub let_through : (order : List ℕ) → (judging t d mode.Free order).number ≡ 0 → checking t d mode.Free order ≡ answer 0 0
  let_through order e =
      let at = (checking t d mode.Free order).at in
      let number : (checking t d mode.Free order).number ≡ 0 = ap (λ (a : Answer). a.number) (sym (same order)) ∙ e in
      let this : checking t d mode.Free order ≡ answer 0 at = ap (λ (k : ℕ). answer k at) number in
      this ∙ ap (answer 0) (is_0 t d mode.Free order at this).0

  -- its reached ranks are accepted, and 255 stands after them
  pub in_free : (order : List ℕ) → (judging t d mode.Free order).number ≡ 0 →
      Accepted (network_of t) d free (take (reached_count_lem (network_of t) d) order)
      × (order ≡ order_bytes t.routers (take (reached_count_lem (network_of t) d) order))
  unfolding mode_of
  in_free order e = (exact t is-sound d place mode.Free order).0 (let_through order e)

  -- an order that is built is accepted in free mode, in whichever mode it was built
  pub built_free : (m : Mode) → Accepted (network_of t) d free (build (network_of t) d (mode_of m))
  built_free m =
      let facts = sound_networks t is-sound in
      let inside : d < size (network_of t) = omega (arith, facts.routers, place) in
      (acceptance_exact (network_of t) facts.well_formed d inside free _).0 (built_either (network_of t) facts.well_formed d inside m)

  -- it has as many entries as ranks are reached
  pub free_long : {order : List ℕ} → Accepted (network_of t) d free order → length order ≡ reached_count_lem (network_of t) d
  free_long acc =
      let facts = sound_networks t is-sound in
      accepted_long (network_of t) facts.well_formed d (omega (arith, facts.routers, place)) free acc

  pub fillable : {a : Arcs} {ds : List ℕ} {limit : ℕ} {order : List ℕ} → Laid t a → Settled (network_of t) d ds → limit ≤ 16 →
      Accepted (network_of t) d free order → Fillable t a ds d limit order
  fillable holds settled most acc =
      record { on_sound = is-sound; holds = holds; settled = settled; limit_most = most; ranked = accepted_ranked t is-sound d place acc }

  -- the test of ranks goes by judging the order that they form
  module _ (table : List ℕ) (e : destination_in_lem table ≡ d) where
    abbrev formed : List ℕ
    formed = order_in t.routers table

    pub ranks_pass : (judging t d mode.Free (by_rank t.routers table)).number ≡ 0 →
        Accepted (network_of t) d free formed × (by_rank t.routers table ≡ order_bytes t.routers formed)
    unfolding order_in
    ranks_pass z =
        let part = take (reached_count_lem (network_of t) d) (by_rank t.routers table) in
        let (acc, are) = in_free (by_rank t.routers table) z in
        let same : formed ≡ part = ap (keep (λ u. ltb u t.routers)) are ∙ its_places t is-sound d place part acc in
        (rw same acc, rw same are)

    pub ranks_fail : ((judging t d mode.Free (by_rank t.routers table)).number ≡ 0 → ⊥) → T (sound_ranks (network_of t) t.routers table) → ⊥
    unfolding sound_ranks right_ranks mode_of
    ranks_fail other h =
        let facts = sound_networks t is-sound in
        let count = t.routers in
        let (passes, each) =
        both (accepted (network_of t) (destination_in_lem table) free formed) (every (λ u. eqb (rank_in_lem table u) (rank_or_none formed u)) (below count)) h in
        let acc = (acceptance_exact (network_of t) facts.well_formed d (omega (arith, facts.routers, place)) free formed).0 (rw e at passes) in
        let are = its_ranks t is-sound d place formed acc table (λ u l. eqb→eq _ _ (every_all _ (below count) each u (mem_below l))) in
        let whole : checking t d mode.Free (by_rank count table) ≡ answer 0 0 = rw are (checks t is-sound d place mode.Free formed acc) in
        other (ap (λ (a : Answer). a.number) (same (by_rank count table) ∙ whole))

-- Where the order that ranks form is accepted, the ranks are sound if they agree with those of its table.
pub ranks_same : (t : Topology) → T (sound t) → (table other : List ℕ) (d limit : ℕ) → destination_in_lem table ≡ d →
    d < t.routers → Accepted (network_of t) d free (order_in t.routers table) → TableIs (network_of t) d limit (order_in t.routers table) other →
    sound_ranks (network_of t) t.routers table ≡ every (λ u. eqb (rank_in_lem table u) (rank_in_lem other u)) (below t.routers)
unfolding sound_ranks right_ranks rank_in_lem row_start_lem number_at
ranks_same t is-sound table other d limit e place acc is =
    let facts = sound_networks t is-sound in
    let formed = order_in t.routers table in
    let passes = (acceptance_exact (network_of t) facts.well_formed d (omega (arith, facts.routers, place)) free formed).1 acc in
    rw (e, as_true (accepted (network_of t) d free formed) passes)
    (every_same _ _ (below t.routers)
    (λ u m.
    ap (eqb (get_or table (4 + 19 * u + 1) 0)) (sym ((as_byte formed u _).0 (is.rows u (omega (arith, facts.routers, below_lt t.routers m))).rank_is))))

-- the order that ranks form has an entry for each router, so a list that begins with it has as many
pub begins_with : (count : ℕ) (xs table : List ℕ) → take count xs ≡ by_rank count table → count ≤ length xs
begins_with count xs table e = omega (arith, length-take count xs, ap length e, long count table)

module _ (t : Topology) (table : List ℕ) where
  pub wrong_length : (length table ≡ table_length (layout_of table) t.routers → ⊥) → answer 21 (length table) ≡ table_judging t table
  unfolding table_judging
  wrong_length other = rw (ne_eqb (length table) (table_length (layout_of table) t.routers) other)

  module _ (long : length table ≡ table_length (layout_of table) t.routers) where
    pub wrong_start : (T (starts? t table) → ⊥) → answer 21 0 ≡ table_judging t table
    unfolding table_judging
    wrong_start out = rw (eq-eqb (length table) (table_length (layout_of table) t.routers) long, as_false (starts? t table) out)

    -- what 21 points at, if the header is sound: the first wrong byte, or 0 where a rank differs; where there is neither, the table is accepted
    module _ (header : T (sound_header t.routers table)) where
      abbrev ranks? : Bool
      ranks? = sound_ranks (network_of t) t.routers table

      right : T ranks? → table_judging t table ≡ refused_at_first 21 (wrong_bytes (network_of t) t.routers table) (answer 0 0)
      unfolding table_judging
      right h =
          rw (eq-eqb (length table) (table_length (layout_of table) t.routers) long, as_true (starts? t table) (and (sound_header t.routers table) ranks? header h))

      other : (T ranks? → ⊥) → answer 21 0 ≡ table_judging t table
      other out = wrong_start (λ start. out (both (sound_header t.routers table) ranks? start).1)

      pub wrong_at : (r : ℕ) → Some r ≡ first_wrong_lem (network_of t) t.routers table → answer 21 r ≡ table_judging t table
      unfolding first_wrong_lem
      wrong_at r e =
          ⊎_elim (λ h. first_found _ r 21 (answer 0 0) (rw (as_true ranks? h) at e) ∙ sym (right h))
          (λ out. let zero : Some r ≡ Some 0 = rw (as_false ranks? out) at e in let same : r ≡ 0 = cc in ap (answer 21) same ∙ other out) (truth ranks?)

      pub none_at : None ≡ first_wrong_lem (network_of t) t.routers table → answer 0 0 ≡ table_judging t table
      unfolding first_wrong_lem refused_at_first
      none_at e =
          ⊎_elim (λ h. let none = none_found _ (rw (as_true ranks? h) at e) in sym (right h ∙ rw none))
          (λ out. let no : None ≡ Some 0 = rw (as_false ranks? out) at e in absurd cc) (truth ranks?)
