-- What is read of a table: each field is a byte of it, and the places of a row are the bytes behind its front, as many as its count says.
-- Assumes nothing.
use Prim.Native.Nat.{ℕ, ◌+◌, ◌≤◌, ◌<◌}
use mathlib.Core.List.{List}
use mathlib.Core.Path.{◌≡◌, refl, sym, ap, ◌∙◌}
use native.Mathlib.Omega.{arith}
use lib.ListN.{length, get_or, take, drop, length-drop}
use lib.Seq.{length-take-le, get_or-take, get_or-drop, ext_get_or}
use Rattle.network.proofs.Below.{get_d_below, length_map_below}
use Rattle.topology_types.specs.declared.Topology.{Topology}
use Rattle.topology_types.specs.Limits.{most_next_hops}
use Rattle.table_rows.specs.declared.Layout.{Layout}
use Rattle.table_rows.specs.Layout.{narrow, header_length, row_start_lem, table_length, number_at, spread}
use Rattle.table.specs.Listed.{layout_of, kind_in, destination_in_lem, count_in_lem, limit_in_lem, rank_in_lem, entry_count, places_in}
use Rattle.table.specs.Inner.{HasRow, TableStands}
use Rattle.table.specs.Theorems.{FieldsRead, LengthRight, NumbersRight}

module _ (table : List ℕ) (u : ℕ) where
  pub places_long : length (places_in table u) ≡ entry_count table u
  unfolding places_in
  places_long = length_map_below _ (entry_count table u)

  pub place_at : (j : ℕ) → j < entry_count table u → get_or (places_in table u) j 0 ≡ get_or table (row_start_lem narrow u + 3 + j) 0
  unfolding places_in number_at
  place_at j h = get_d_below _ (entry_count table u) j 0 h ∙ ap (λ (i : ℕ). get_or table i 0) (omega arith)

  -- so they are a part of the table
  pub places_part : row_start_lem narrow u + 3 + entry_count table u ≤ length table →
      take (entry_count table u) (drop (row_start_lem narrow u + 3) table) ≡ places_in table u
  places_part fits =
      let count = entry_count table u in
      let long : length (take count (drop (row_start_lem narrow u + 3) table)) ≡ count =
      length-take-le count _ (omega (arith, length-drop (row_start_lem narrow u + 3) table)) in
      ext_get_or 0 _ _ (long ∙ sym places_long)
      (λ j h.
      let here : j < count = omega arith in
      get_or-take count (drop (row_start_lem narrow u + 3) table) j 0 here ∙ get_or-drop (row_start_lem narrow u + 3) table j 0 ∙ sym (place_at j here))

pub fields_read : FieldsRead
unfolding kind_in destination_in_lem count_in_lem limit_in_lem rank_in_lem entry_count row_start_lem number_at
fields_read table =
    record {
      layout = refl;
      kind = refl;
      destination = refl;
      count = refl;
      limit_is = refl;
      rank_is = λ u. refl;
      count_is = λ u. refl;
      entries = places_long table;
      entry = λ u j h. place_at table u j (omega (arith, places_long table u));
      long = λ routers. refl;
    }

-- a layout that is the one there is: a byte for a place and for a rank
module _ {l : Layout} (same : l ≡ narrow) where
  pub place_one : l.place ≡ 1
  place_one = ap (λ (k : Layout). k.place) same

  pub rank_one : l.rank ≡ 1
  rank_one = ap (λ (k : Layout). k.rank) same

  -- where the row of u begins, so read, its fields stand
  module _ (table : List ℕ) (u : ℕ) {start : ℕ} (begins : start ≡ row_start_lem l u) where
    pub start_is : start ≡ row_start_lem narrow u
    start_is = begins ∙ ap (λ (k : Layout). row_start_lem k u) same

    pub rank_read : number_at l.rank table (start + 1) ≡ rank_in_lem table u
    unfolding rank_in_lem
    rank_read = rw (start_is, rank_one)

    pub count_read : get_or table (start + 1 + l.rank) 0 ≡ entry_count table u
    unfolding entry_count
    count_read = rw (start_is, rank_one) (ap (λ (i : ℕ). get_or table i 0) (omega arith))

-- a table that is long enough for n routers has the row of each
pub row_within : (table : List ℕ) (n u : ℕ) → n ≤ 64 → u < n → table_length narrow n ≤ length table → HasRow table u
unfolding row_start_lem
row_within table n u few inside long = record { place = omega arith; whole = omega arith }

-- so an accepted table has its header, and the row of each router
module _ {t : Topology} {table : List ℕ} (stands : TableStands t table) where
  pub headed : header_length (layout_of table) ≤ length table
  unfolding row_start_lem
  headed = omega (arith, stands.long)

  pub rowed : (u : ℕ) → u < t.routers → HasRow table u × (entry_count table u ≤ most_next_hops)
  rowed u inside = ((stands.rows u inside).stands, (stands.rows u inside).few)

pub length_right : LengthRight
unfolding row_start_lem
length_right routers = refl

pub numbers_right : NumbersRight
unfolding number_at spread
numbers_right bytes at n = record { one = refl; two = refl; put_one = refl; put_two = refl }
