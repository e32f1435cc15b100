-- A table is put from its beginning on, first the header and then the rows, of one length: what was put after u turns.
-- Assumes nothing.
use Prim.Native.Nat.{ℕ, zero, suc, ◌+◌, ◌-◌, ◌*◌, ◌/◌, ◌≤◌, ◌<◌}
use mathlib.Core.List.{List, ◌++◌, append_assoc, append-nil, map}
use mathlib.Core.Path.{◌≡◌, refl, sym, ◌∙◌}
use native.Mathlib.Nat.{mul-le-mul_left}
use native.Mathlib.Omega.{arith}
use lib.ListN.{length, take, drop, length-append, length-map, length-replicate, length-take}
use lib.Seq.{take-append_seam, drop-drop}
use Rattle.std.proofs.Math.Seq.{drop-append_seam}
use Rattle.network.specs.Lists.{numbers_from, below}
use Rattle.network.specs.Network.{Arc, Network, arcs_of}
use Rattle.network.specs.Distance.{distances}
use Rattle.network.specs.Row.{full_row, row}
use Rattle.network.proofs.Below.{length_below}
use Rattle.topology_types.specs.declared.Topology.{Topology}
use Rattle.topology_types.specs.Topology.{padded, network_of}
use Rattle.arcs.specs.declared.Arcs.{Arcs}
use Rattle.arcs.proofs.Slots.{below_more}
use Rattle.order.specs.declared.unchecked.Ranks.{Ranks}
use Rattle.order.specs.Inner.{RanksOf}
use Rattle.topology.specs.Written.{joined_over}
use Rattle.topology.proofs.Joined.{joined_length, joined_many, joined_last}
use Rattle.table_rows.specs.declared.Layout.{Layout}
use Rattle.table_rows.specs.Layout.{narrow, header_length, row_length, row_start_lem, table_length, spread}
use Rattle.table_rows.specs.Bytes.{row_bytes, header_bytes, row_of, table_of, rank_or_none, table_bytes}
use Rattle.table_rows.specs.Inner.{Weights, rank_of, sorted_keys, place_in_key, Fillable}
use Rattle.table_rows.proofs.RankBytes.{rank-of}
use Rattle.table_rows.proofs.KeyLaw.{within, key_law}

-- the rows of the first u places
abbrev pub first_rows : Layout → (ℕ → ℕ) → (ℕ → List Arc) → ℕ → List ℕ
first_rows l ranks rows u = joined_over (row_of l ranks rows) (below u)

-- a table of `count` routers up to the row of u
abbrev pub begun : Layout → (ℕ → ℕ) → (ℕ → List Arc) → ℕ → ℕ → ℕ → ℕ → List ℕ
begun l ranks rows d limit count u = header_bytes l d count limit ++ first_rows l ranks rows u

spread_wide : (w n : ℕ) → length (spread w n) ≡ w
unfolding spread
spread_wide zero n = refl
spread_wide (suc zero) n = refl
spread_wide (suc (suc w)) n = simp (length-append, spread_wide (suc w) (n / 256)) (omega arith)

header_wide : (l : Layout) (d count limit : ℕ) → length (header_bytes l d count limit) ≡ header_length l
unfolding header_bytes
header_wide l d count limit = simp (length-append, spread_wide) (omega arith)

-- a row has at most K entries
pub row_few : (n : Network) (ds : List ℕ) (limit : ℕ) → limit ≤ 16 → (order : List ℕ) (u : ℕ) → length (row n ds limit order u) ≤ 16
unfolding row
row_few n ds limit few order u = omega (arith, length-take limit (full_row n ds order u))

-- by any layout, with rows of at most 16 entries
module _ (l : Layout) (ranks : ℕ → ℕ) (rows : ℕ → List Arc) (few : (u : ℕ) → length (rows u) ≤ 16) where
  pub row_wide : (u : ℕ) → length (row_of l ranks rows u) ≡ row_length l
  unfolding row_of row_bytes padded
  row_wide u =
      let places = map (λ (a : Arc). a.to) (rows u) in
      let long = joined_length (spread l.place) (spread_wide l.place) places in
      let fits : l.place * length places ≤ l.place * 16 = mul-le-mul_left l.place (rw (length-map (rows u) (λ (a : Arc). a.to)) (few u)) in
      simp (length-append, length-replicate, spread_wide) (omega (arith, long))

  pub begun_length : (d limit count u : ℕ) → length (begun l ranks rows d limit count u) ≡ row_start_lem l u
  unfolding row_start_lem
  begun_length d limit count u =
      simp (length-append, header_wide l d count limit, joined_many (row_of l ranks rows) row_wide (below u) (length_below u))

  -- with the row of u behind it
  pub begun_more : (d limit count u : ℕ) → begun l ranks rows d limit count u ++ row_of l ranks rows u ≡ begun l ranks rows d limit count (u + 1)
  begun_more d limit count u = rw (below_more u, joined_last) (append_assoc (header_bytes l d count limit) _ _)

pub begun_none : (l : Layout) (ranks : ℕ → ℕ) (rows : ℕ → List Arc) (d limit count : ℕ) → begun l ranks rows d limit count 0 ≡ header_bytes l d count limit
unfolding joined_over below numbers_from
begun_none l ranks rows d limit count = append-nil (header_bytes l d count limit)

-- A part of a buffer that was put, where its beginning stands: what was behind it stays behind what was put.
pub part_put : (begun rest part : List ℕ) (at end : ℕ) → length begun ≡ at → take at (begun ++ rest) ++ (part ++ drop (end - at) (drop at (begun ++ rest)))
    ≡ (begun ++ part) ++ drop (end - at) rest
part_put begun rest part at end long =
    rw (← long, take-append_seam, drop-append_seam) (sym (append_assoc begun part _))

-- what is put for u is its row
pub row_put : {t : Topology} {a : Arcs} {ds : List ℕ} {d limit : ℕ} {order : List ℕ} → Fillable t a ds d limit order →
    {weights : List ℕ} → Weights t.id ds t.routers weights → {ranks : Ranks} → RanksOf order ranks → (u : ℕ) → u < t.routers →
    row_bytes narrow (rank_of ranks.by u) (map place_in_key (take limit (sorted_keys weights ranks.by u (arcs_of (network_of t) u))))
    ≡ row_of narrow (rank_or_none order) (row (network_of t) (distances (network_of t) d) limit order) u
unfolding row_of
row_put f w r u u_in = rw (rank-of r u (omega (arith, (within f).most)), key_law f w r u u_in)

rows_apart : (u : ℕ) → row_start_lem narrow u + (row_start_lem narrow (u + 1) - row_start_lem narrow u) ≡ row_start_lem narrow (u + 1)
unfolding row_start_lem
rows_apart u = omega arith

-- a buffer that is filled up to the row of u; the row is put behind the rows before it
abbrev pub filled : Topology → ℕ → ℕ → List ℕ → List ℕ → ℕ → List ℕ
filled t d limit order buffer u =
    begun narrow (rank_or_none order) (row (network_of t) (distances (network_of t) d) limit order) d limit t.routers u ++ drop (row_start_lem narrow u) buffer

module _ {t : Topology} {a : Arcs} {ds : List ℕ} {d limit : ℕ} {order : List ℕ} (f : Fillable t a ds d limit order) (buffer : List ℕ) where
  pub filled_more : {weights : List ℕ} → Weights t.id ds t.routers weights → {ranks : Ranks} → RanksOf order ranks → (u : ℕ) → u < t.routers → (part : List ℕ) →
      part ≡ row_bytes narrow (rank_of ranks.by u) (map place_in_key (take limit (sorted_keys weights ranks.by u (arcs_of (network_of t) u)))) →
      let full : List ℕ = filled t d limit order buffer u in
      let first = row_start_lem narrow u in
      let end = row_start_lem narrow (u + 1) in
      take first full ++ (part ++ drop (end - first) (drop first full)) ≡ filled t d limit order buffer (u + 1)
  filled_more w r u u_in part e =
      let rows = row (network_of t) (distances (network_of t) d) limit order in
      let few = row_few (network_of t) (distances (network_of t) d) limit f.limit_most order in
      let ranks = rank_or_none order in
      let first = row_start_lem narrow u in
      let end = row_start_lem narrow (u + 1) in
      let whole : first + (end - first) ≡ end = rows_apart u in
      part_put (begun narrow ranks rows d limit t.routers u) (drop first buffer) part first end (begun_length narrow ranks rows few d limit t.routers u)
      ∙ rw (e, row_put f w r u u_in, begun_more narrow ranks rows few d limit t.routers u, drop-drop (end - first) first buffer, whole)

  pub filled_all : filled t d limit order buffer t.routers ≡ table_bytes (network_of t) d limit order ++ drop (table_length narrow t.routers) buffer
  unfolding table_bytes table_of
  filled_all = rw ((within f).sized)
