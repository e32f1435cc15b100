-- What an accepted table lists: the places that its bytes give for a router are those of its row, and each place leads back to the one arc of the row
-- that goes there, since no two arcs of a router lead to one place. What holds of every order accepted in free mode holds of the table's.
-- Assumes nothing.
use Prim.Native.Nat.{ℕ, ◌+◌, ◌*◌, ◌≤◌, ◌<◌}
use mathlib.Core.List.Memᴰ
use mathlib.Core.List.{List, [], ◌∷◌, map, Memᴰ}
use mathlib.Core.Logic.{◌≢◌, ⊎_elim}
use mathlib.Core.Path.{◌≡◌, refl, sym, ap, ap₂, ◌∙◌, fun_ext}
use native.Mathlib.Decide.{dec_lt}
use native.Mathlib.Omega.{arith}
use borrow.Author.Tests.{eq-eqb, ne_eqb}
use lib.Dec.{eqb}
use lib.ListN.{length, get_or, length-map, get_or-eq_default}
use lib.Seq.{ext_get_or, take-nil}
use Rattle.network.specs.Lists.{Pairwise, nothing, then, numbers_from, below, keep, sort}
use Rattle.network.specs.Network.{Arc, Network, size, arcs_of, WellFormed}
use Rattle.network.specs.Distance.{PathTo, distances}
use Rattle.network.specs.Order.{free}
use Rattle.network.specs.Theorems.Order.{Accepted}
use Rattle.network.specs.Row.{rank, ranked_before, full_row, row}
use Rattle.network.specs.Forwarding.{Forwarding}
use Rattle.network.proofs.Lists.{mem_take}
use Rattle.network.proofs.Order.{acceptance_exact}
use Rattle.network.proofs.Pigeon.{member?}
use Rattle.network.proofs.Rank.{rank-in, rank_is_turn}
use Rattle.network.proofs.Row.{full_row_exact}
use Rattle.network.proofs.Falling.{orders_fall, rows_unreached}
use Rattle.topology_types.specs.Topology.{network_of}
use Rattle.topology_sound.proofs.Sound.{sound_networks}
use Rattle.topology.specs.Written.{joined_over}
use Rattle.table_rows.specs.Layout.{row_start_lem, number_at}
use Rattle.table.specs.Listed.{destination_in_lem, rank_in_lem, entry_count, places_in, arcs_to, entries_in, listed, forwarding_by, order_in}
use Rattle.table.specs.Theorems.{TableIs, TablesList, RowsByPath, AcceptedList, TablesCarry}
use Rattle.table.proofs.Fields.{fields_read}
use Rattle.table.proofs.Accepting.{ranks_ordered}
use Rattle.table.proofs.Verdicts.{start_of, accepted_given}

abbrev place : Arc → ℕ
place a = a.to

-- no arc leads to a place to which none of them leads
keep_nothing : (v : ℕ) (arcs : List Arc) → ((b : Arc) → Memᴰ b arcs → b.to ≢ v) → keep (λ b. eqb b.to v) arcs ≡ []
keep_nothing v [] out = refl
keep_nothing v (b ∷ arcs) out =
    rw (ne_eqb b.to v (out b (Memᴰ.head refl))) (keep_nothing v arcs (λ c m. out c (Memᴰ.tail m)))

-- of arcs that lead to different places one leads to the place of each
keep_one : {arcs : List Arc} → Pairwise (λ a b. a.to ≢ b.to) arcs → (a : Arc) → Memᴰ a arcs → keep (λ b. eqb b.to a.to) arcs ≡ a ∷ []
keep_one nothing a m = absurd (Memᴰ.not-nil m)
keep_one (then {x} {xs} h p) a m =
    ⊎_elim
    (λ e.
    let to : x.to ≡ a.to = ap place (sym e) in
    rw (eq-eqb x.to a.to to) (ap₂ (λ (b : Arc) (bs : List Arc). b ∷ bs) (sym e) (keep_nothing a.to xs (λ b k q. h b k (to ∙ sym q)))))
    (λ k. rw (ne_eqb x.to a.to (h a k)) (keep_one p a k))
    (Memᴰ.cases_cons m)

module _ (n : Network) (wf : WellFormed n) (u : ℕ) where
  -- the places of arcs of u lead back to these arcs
  arcs_back : (arcs : List Arc) → ((a : Arc) → Memᴰ a arcs → Memᴰ a (arcs_of n u)) → joined_over (arcs_to n u) (map place arcs) ≡ arcs
  unfolding joined_over arcs_to
  arcs_back [] h = refl
  arcs_back (a ∷ arcs) h =
      rw (keep_one (wf.places_differ u) a (h a (Memᴰ.head refl)), arcs_back arcs (λ b m. h b (Memᴰ.tail m)))

  -- past N there are no arcs
  no_row : (ds : List ℕ) (limit : ℕ) (order : List ℕ) → size n ≤ u → row n ds limit order u ≡ []
  unfolding row full_row ranked_before arcs_of sort
  no_row ds limit order past =
      let none : get_or n.arcs u [] ≡ [] = get_or-eq_default n.arcs [] (omega (arith, wf.each_place)) in
      rw none (take-nil limit)

module _ (n : Network) (wf : WellFormed n) (d limit : ℕ) (few : limit ≤ 16) (order table : List ℕ) (is : TableIs n d limit order table) where
  abbrev entries : ℕ → List Arc
  entries u = row n (distances n d) limit order u

  -- the places that the row of u lists
  pub places_are : (u : ℕ) → u < size n → places_in table u ≡ map place (entries u)
  places_are u h =
      let r = is.rows u h in
      let f = fields_read table in
      let long : length (places_in table u) ≡ length (entries u) = f.entries u ∙ r.count in
      ext_get_or 0 (places_in table u) (map place (entries u)) (long ∙ sym (length-map (entries u) place))
      (λ j l. f.entry u j l ∙ r.entry j (omega (arith, long)))

  -- past N there are no bytes
  none_past : (u : ℕ) → size n ≤ u → places_in table u ≡ []
  unfolding places_in entry_count row_start_lem below numbers_from
  none_past u past = rw (get_or-eq_default table 0 {n = 4 + 19 * u + 2} (omega (arith, is.long)))

  entries_are : d < size n → (u : ℕ) → entries_in n table u ≡ entries u
  unfolding entries_in joined_over row
  entries_are inside u = step (dec_lt u (size n))
    where
      among : (a : Arc) → Memᴰ a (entries u) → Memᴰ a (arcs_of n u)
      among a m = (((full_row_exact n wf d inside order u).holds a).0 (mem_take limit (full_row n (distances n d) order u) m)).0

      step : Dec (u < size n) → joined_over (arcs_to n u) (places_in table u) ≡ entries u
      step (yes h) = rw (places_are u h) (arcs_back n wf u (entries u) among)
      step (no h) = rw (none_past u (omega arith)) (sym (no_row n wf u (distances n d) limit order (omega arith)))

-- routers that forward to d by rows
forwarding : ℕ → (ℕ → List Arc) → Forwarding
forwarding d rows = forwarding_by (record { destination = d; rank = λ u. 0; entries = rows })

pub tables_list : TablesList
unfolding listed forwarding destination_in_lem rank_in_lem row_start_lem number_at
tables_list t good table d limit order g =
    let n = network_of t in
    let s = sound_networks t good in
    let is = g.bytes in
    let rows : (u : ℕ) → entries_in n table u ≡ row n (distances n d) limit order u =
    entries_are n s.well_formed d limit g.limit_most order table is (omega (arith, s.routers, g.place)) in
    let (same, mode) = ranks_ordered t good table order (start_of t table good d limit order g) in
    record {
      destination = is.destination;
      ranks = λ u h. (is.rows u (omega (arith, s.routers))).rank_is;
      entries = rows;
      forwards = ap₂ forwarding is.destination (fun_ext rows);
      ordered = same;
      mode_is = rw is.destination at mode;
    }

-- a place that ranks before the end of an order stands in it
pub held_before : (order : List ℕ) (v : ℕ) → rank order v < length order → Memᴰ v order
held_before order v h = step (member? v order)
  where
    step : Dec (Memᴰ v order) → Memᴰ v order
    step (yes m) = m
    step (no out) = absurd (omega (arith, (rank_is_turn v).1 order out))

-- a router with no path has no row
pub no_path_row : (n : Network) → WellFormed n → (d : ℕ) → d < size n → {order : List ℕ} → Accepted n d free order → (limit u : ℕ) →
    (PathTo n d u → ⊥) → row n (distances n d) limit order u ≡ []
no_path_row n wf d inside {order} a limit u =
    rows_unreached n wf d inside _ _ (orders_fall n wf d inside limit order ((acceptance_exact n wf d inside free order).1 a)) u

pub rows_by_path : RowsByPath
rows_by_path t good table d limit order g u h =
    let n = network_of t in
    let s = sound_networks t good in
    let inside : d < size n = omega (arith, s.routers, g.place) in
    let r = g.bytes.rows u (omega (arith, s.routers)) in
    let acc = g.in_free in
    record {
      unreached = λ out.
          let none = ap (λ (arcs : List Arc). length arcs) (no_path_row n s.well_formed d inside acc limit u out) in
          record {
            no_rank = r.rank_is.unreached (λ m. out (acc.only u m));
            no_entries = r.count ∙ none;
            all_none = λ j l. r.padding j (omega (arith, none)) l;
          };
      reached = λ path. let m = acc.all u path in (r.rank_is.reached m, rank-in order u m);
    }

pub accepted_list : AcceptedList
accepted_list t good table e = tables_list t good table _ _ _ (accepted_given t good table e)

pub tables_carry : TablesCarry
tables_carry claim law t good table e =
    let s = sound_networks t good in
    let g = accepted_given t good table e in
    let d = get_or table 1 0 in
    let order = order_in t.routers table in
    let inside : d < size (network_of t) = omega (arith, s.routers, g.place) in
    law (network_of t) s.well_formed d inside (get_or table 3 0) order
    ((acceptance_exact (network_of t) s.well_formed d inside free order).1 g.in_free)
