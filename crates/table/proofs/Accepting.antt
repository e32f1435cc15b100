-- The tests of `table_checking` as facts: the header and the ranks pass if and only if some order accepted in free mode has these ranks, and that order
-- is the one that the ranks form; two lists of one length that differ at no offset are one.
-- Assumes nothing.
use Prim.Native.Nat.{ℕ, ◌+◌, ◌*◌, ◌≤◌, ◌<◌}
use mathlib.Core.Bool.{Bool, false, not, ◌&&◌}
use mathlib.Core.List.{List, [], ◌∷◌, Memᴰ}
use mathlib.Core.Logic.{◌≢◌}
use mathlib.Core.Path.{◌≡◌, ap}
use native.Mathlib.Omega.{arith}
use borrow.Author.Tests.{eq-eqb, ne_eqb, eqb-false, eqb-true, not-true, not-false}
use lib.Dec.{T, eqb, ltb, leb, eqb→eq, ltb→lt, lt→ltb, leb→le, le→leb}
use lib.ListN.{length, get_or}
use lib.Seq.{ext_get_or}
use Rattle.network.specs.Lists.{below, keep, every}
use Rattle.network.specs.Network.{size}
use Rattle.network.specs.Order.{shortest-path, free, accepted}
use Rattle.network.specs.Theorems.Order.{Accepted}
use Rattle.network.proofs.Distance.{starts_in}
use Rattle.network.proofs.Below.{mem_below, below_lt}
use Rattle.network.proofs.Lists.{every_all, all_every}
use Rattle.network.proofs.Order.{order_fits, acceptance_exact}
use Rattle.network.proofs.Tests.{both, and, three, and_three, eq_test}
use Rattle.topology_types.specs.declared.Topology.{Topology}
use Rattle.topology_types.specs.Limits.{most_next_hops}
use Rattle.topology_types.specs.Topology.{padded, network_of}
use Rattle.topology_sound.specs.Sound.{sound, within}
use Rattle.topology_sound.specs.Theorems.{SoundNetwork}
use Rattle.topology_sound.proofs.Sound.{sound_exact, sound_networks}
use Rattle.order.specs.Calls.{order_bytes}
use Rattle.order.proofs.Ranges.{keep_none, none_passes, keep_first, first_passes}
use Rattle.table_rows.specs.Layout.{row_start_lem, number_at}
use Rattle.table_rows.specs.Bytes.{rank_or_none}
use Rattle.table.specs.Listed.{kind_in, destination_in_lem, count_in_lem, limit_in_lem, rank_in_lem, by_rank, order_in, in_shortest_path_mode}
use Rattle.table.specs.Calls.{sound_header, sound_ranks, differing, right_ranks}
use Rattle.table.specs.Theorems.{SoundStart, RanksOrdered, RanksInBytes}
use Rattle.table.proofs.Ordered.{as_byte, kept, ordered, begins}

-- the test of the header and the ranks
abbrev pub starts? : Topology → List ℕ → Bool
starts? t table = sound_header t.routers table && sound_ranks (network_of t) t.routers table

module _ (t : Topology) (is-sound : T (sound t)) where
  facts : SoundNetwork t
  facts = sound_networks t is-sound

  few : t.routers ≤ 64
  few = ((sound_exact t).0 is-sound).routers_most

  module _ (d : ℕ) (place : d < t.routers) (order : List ℕ) (a : Accepted (network_of t) d free order) where
    inside : d < size (network_of t)
    inside = omega (arith, facts.routers)

    -- an accepted order holds places, no more than there are
    short : length order ≤ t.routers
    short = omega (arith, facts.routers, order_fits (network_of t) facts.well_formed d inside free a)

    places : (u : ℕ) → Memᴰ u order → u < t.routers
    places u m = omega (arith, facts.routers, starts_in (network_of t) facts.well_formed d inside (a.only u m))

    -- so the places of its bytes are the order
    pub its_places : keep (λ u. ltb u t.routers) (order_bytes t.routers order) ≡ order
    its_places = kept t.routers few order short places

    pub its_ranks : (table : List ℕ) → ((u : ℕ) → u < t.routers → rank_in_lem table u ≡ rank_or_none order u) →
        by_rank t.routers table ≡ order_bytes t.routers order
    its_ranks table ranks = ordered t.routers few order short places table a.once ranks

  module _ (table : List ℕ) where
    pub its-bytes : (order : List ℕ) → SoundStart t table order → by_rank t.routers table ≡ order_bytes t.routers order
    unfolding rank_in_lem row_start_lem number_at
    its-bytes order s =
        its_ranks _ s.destination order s.in_free table (λ u h. (as_byte order u (get_or table (4 + 19 * u + 1) 0)).0 (s.ranks u h))

    pub its_order : (order : List ℕ) → SoundStart t table order → order_in t.routers table ≡ order
    unfolding order_in
    its_order order s = rw (its-bytes order s) (its_places _ s.destination order s.in_free)

    -- the destination of a sound header is a place
    pub header_place : T (sound_header t.routers table) → get_or table 1 0 < t.routers
    unfolding sound_header kind_in destination_in_lem count_in_lem number_at
    header_place h =
        let d = get_or table 1 0 in
        let count = t.routers in
        let (front, limits) = both (eqb (get_or table 0 0) 16 && ltb d count && eqb (get_or table 2 0) count) (within most_next_hops (limit_in_lem table)) h in
        let (kind, destination, counted) = three (eqb (get_or table 0 0) 16) (ltb d count) (eqb (get_or table 2 0) count) front in
        ltb→lt d count destination

    -- and its K is at most 16
    pub header_limit : T (sound_header t.routers table) → get_or table 3 0 ≤ 16
    unfolding sound_header limit_in_lem within number_at
    header_limit h =
        let limit = get_or table 3 0 in
        let count = t.routers in
        let (front, limits) = both (eqb (kind_in table) 16 && ltb (destination_in_lem table) count && eqb (count_in_lem table) count) (within most_next_hops limit) h in
        leb→le limit 16 (both (leb 1 limit) (leb limit most_next_hops) limits).1

    pub starts : T (starts? t table) → SoundStart t table (order_in t.routers table)
    unfolding sound_header sound_ranks right_ranks kind_in destination_in_lem count_in_lem limit_in_lem rank_in_lem row_start_lem within number_at
    starts h =
        let count = t.routers in
        let d = get_or table 1 0 in
        let limit = get_or table 3 0 in
        let order = order_in count table in
        let (header, ranked) = both (sound_header count table) (sound_ranks (network_of t) count table) h in
        let (ranks, each) = both (accepted (network_of t) d free order) (every (λ u. eqb (rank_in_lem table u) (rank_or_none order u)) (below count)) ranked in
        let (front, limits) = both (eqb (get_or table 0 0) 16 && ltb d count && eqb (get_or table 2 0) count) (within most_next_hops limit) header in
        let (kind, destination, counted) = three (eqb (get_or table 0 0) 16) (ltb d count) (eqb (get_or table 2 0) count) front in
        let (least, most) = both (leb 1 limit) (leb limit most_next_hops) limits in
        let place : d < count = ltb→lt d count destination in
        let a : Accepted (network_of t) d free order =
        (acceptance_exact (network_of t) facts.well_formed d (omega (arith, facts.routers)) free order).0 ranks in
        record {
          kind = eqb→eq _ _ kind;
          destination = place;
          count = eqb→eq _ _ counted;
          limit_least = leb→le 1 limit least;
          limit_most = leb→le limit 16 most;
          in_free = a;
          ranks = λ u l. (as_byte order u (get_or table (4 + 19 * u + 1) 0)).1 (eqb→eq _ _ (every_all _ (below count) each u (mem_below l)));
        }

    pub start_passes : (order : List ℕ) → SoundStart t table order → T (starts? t table)
    unfolding sound_header sound_ranks right_ranks kind_in destination_in_lem count_in_lem limit_in_lem rank_in_lem row_start_lem within number_at
    start_passes order s =
        let count = t.routers in
        let d = get_or table 1 0 in
        let limit = get_or table 3 0 in
        and (sound_header count table) (sound_ranks (network_of t) count table)
        (and (eqb (get_or table 0 0) 16 && ltb d count && eqb (get_or table 2 0) count) (within most_next_hops limit)
        (and_three (eqb (get_or table 0 0) 16) (ltb d count) (eqb (get_or table 2 0) count) (eq_test s.kind) (lt→ltb d count s.destination)
        (eq_test s.count))
        (and (leb 1 limit) (leb limit most_next_hops) (le→leb 1 limit s.limit_least) (le→leb limit 16 s.limit_most)))
        (rw (its_order order s)
        (and (accepted (network_of t) d free order) (every (λ u. eqb (get_or table (4 + 19 * u + 1) 0) (rank_or_none order u)) (below count))
        ((acceptance_exact (network_of t) facts.well_formed d (omega (arith, facts.routers, s.destination)) free order).1 s.in_free)
        (all_every (λ u. eqb (get_or table (4 + 19 * u + 1) 0) (rank_or_none order u)) (below count)
        (λ u m. eq_test ((as_byte order u (get_or table (4 + 19 * u + 1) 0)).0 (s.ranks u (below_lt count m)))))))

pub ranks_ordered : RanksOrdered
unfolding in_shortest_path_mode destination_in_lem number_at
ranks_ordered t is-sound table order s =
    let n = sound_networks t is-sound in
    let same = its_order t is-sound table order s in (
      same,
      rw (n.routers, same)
          (acceptance_exact (network_of t) n.well_formed (get_or table 1 0) (omega (arith, n.routers, s.destination)) shortest-path order),
    )

pub ranks_in_bytes : RanksInBytes
unfolding order_bytes padded
ranks_in_bytes = its-bytes

-- two lists of bytes: they differ nowhere, or first at some offset
module _ (table other : List ℕ) where
  abbrev apart? : ℕ → Bool
  apart? i = not (eqb (get_or table i 0) (get_or other i 0))

  same : (i : ℕ) → apart? i ≡ false → get_or table i 0 ≡ get_or other i 0
  same i e = eqb-true _ _ (not-false (eqb (get_or table i 0) (get_or other i 0)) e)

  same_passes : (i : ℕ) → get_or table i 0 ≡ get_or other i 0 → apart? i ≡ false
  same_passes i e = rw (eq-eqb (get_or table i 0) (get_or other i 0) e)

  pub none_differs : table ≡ other → differing table other ≡ []
  unfolding differing below
  none_differs e = keep_none apart? 0 (length table) (λ i h l. same_passes i (ap (λ (bytes : List ℕ). get_or bytes i 0) e))

  pub agree : length table ≡ length other → differing table other ≡ [] → table ≡ other
  unfolding differing below
  agree long none =
      ext_get_or 0 table other long (λ i h. same i (none_passes apart? 0 (length table) none i (omega arith) (omega arith)))

  -- the offset is within, the bytes there differ, and all before agree
  abbrev pub FirstApart : ℕ → Type 0
  FirstApart at = (at < length table) × (get_or table at 0 ≢ get_or other at 0) × ((i : ℕ) → i < at → get_or table i 0 ≡ get_or other i 0)

  pub first_apart : (at : ℕ) (rest : List ℕ) → differing table other ≡ at ∷ rest → FirstApart at
  unfolding differing below
  first_apart at rest e =
      let w = first_passes apart? 0 (length table) at rest e in (
        omega (arith, w.within),
        eqb-false _ _ (not-true (eqb (get_or table at 0) (get_or other at 0)) w.passes),
        λ i h. same i (w.earlier i (omega arith) h),
      )

  pub apart_first : (at : ℕ) → FirstApart at → (rest : List ℕ) × (differing table other ≡ at ∷ rest)
  unfolding differing below
  apart_first at (h, wrong, earlier) =
      begins (differing table other) (length table) at
      (keep_first apart? (length table) 0 (length table) at
      (record {
        least = omega arith;
        within = omega arith;
        passes = rw (ne_eqb (get_or table at 0) (get_or other at 0) wrong);
        earlier = λ i l k. same_passes i (earlier i k);
      }))
      h
