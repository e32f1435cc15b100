-- The order that is built is the one by the rule, and its table is accepted; so where there is a path the rank that a row has is the router's turn, the
-- figure is the greatest hop count, and the places are those of the row's entries; where there is none both are 255, and the row is empty.
-- Assumes nothing.
use Prim.Native.Nat.{ℕ, ◌≤◌, ◌<◌}
use mathlib.Core.List.{List, [], ◌∷◌, ◌++◌, map, append_assoc, Memᴰ}
use mathlib.Core.Path.{◌≡◌, refl, ap, ◌∙◌}
use native.Mathlib.Omega.{arith}
use borrow.Author.Tests.{lt-ltb, le-ltb}
use lib.Dec.{T}
use lib.ListN.{length, drop}
use Rattle.network.specs.Network.{Arc}
use Rattle.network.specs.Distance.{PathTo, distances}
use Rattle.network.specs.Order.{shortest-path, build}
use Rattle.network.specs.Row.{rank, row}
use Rattle.network.proofs.Build.{built_by_rule}
use Rattle.network.proofs.Rank.{rank-in}
use Rattle.topology_types.specs.declared.Topology.{Topology}
use Rattle.topology_types.specs.Outcome.{answer, given, turned_away}
use Rattle.topology_types.specs.Topology.{network_of}
use Rattle.topology_sound.specs.Sound.{sound}
use Rattle.topology_sound.proofs.Sound.{sound_networks}
use Rattle.topology_sound.proofs.Place.{on_place_unsound, on_place_outside, on_place_next}
use Rattle.topology.specs.Written.{joined_over}
use Rattle.table.specs.Listed.{rank_in_lem, places_in, listed}
use Rattle.table.proofs.Lists.{no_path_row}
use Rattle.table.proofs.Ordered.{at_rank}
use Rattle.forwarding_rules.specs.Calls.{figure_byte}
use Rattle.forwarding_rules.proofs.Figures.{figures_exact}
use Rattle.text.specs.Numbers.{number_text}
use Rattle.text.proofs.Texts.{one_digit, more_digits}
use Rattle.listing_rules.specs.declared.Front.{Front}
use Rattle.listing_rules.specs.Listing.{table_for, line_for, lines_for, all_lines, listing}
use Rattle.listing_rules.specs.Inner.{spaced_number, fields_text, front_of_lem, front_line, front_text, row_text}
use Rattle.listing_rules.specs.Theorems.{NumbersSpelled, JoinsInTurn, listing_line, LineIs, LineByPath, ListsRight, ListingRefuses, ListingRight}
use Rattle.listing_rules.proofs.Fields.{row_none, row_some, line_fields}
use Rattle.listing_rules.proofs.Tables.{given as its-given, accepted, lists, places, tells, its_path, no-path, figure_at, hop_counts, no_count}

pub numbers_spelled : NumbersSpelled
numbers_spelled n = record { one = one_digit n; more = more_digits n }

pub joins_in_turn : JoinsInTurn
unfolding joined_over
joins_in_turn A f = record { none = refl; more = λ x xs. refl }

-- the row's fields, entry by entry
joined_entries : (entries : List Arc) → joined_over spaced_number (map (λ a. a.to) entries) ≡ joined_over (λ (b : Arc). 32 ∷ number_text b.to) entries
unfolding joined_over
joined_entries [] = refl
joined_entries (a ∷ rest) = ap (λ (l : List ℕ). spaced_number a.to ++ l) (joined_entries rest)

-- a line by its fields
line_spread : (f : Front) (row : List ℕ) →
    front_line f row ≡ listing_line f.destination.0 f.router.0 f.rank.0 f.hops.0 (row_text row ++ (10 ∷ []))
unfolding front_text
line_spread f row = line_fields f row ∙ simp append_assoc

module _ (t : Topology) (good : T (sound t)) (d : ℕ) (place : d < t.routers) where
  abbrev order : List ℕ
  order = build (network_of t) d shortest-path

  abbrev table : List ℕ
  table = table_for t d

  module _ (u : ℕ) (h : u < t.routers) where
    abbrev entries : List Arc
    entries = row (network_of t) (distances (network_of t) d) t.limit order u

    fields : line_for t d table u ≡ listing_line d u (rank_in_lem table u) (figure_byte t table u) (row_text (map (λ a. a.to) entries) ++ (10 ∷ []))
    unfolding line_for front_line
    fields = rw (← places t good d place u h) (line_spread (front_of_lem d u (rank_in_lem table u) (figure_byte t table u)) (places_in table u))

    empty_row : entries ≡ [] → row_text (map (λ a. a.to) entries) ≡ 32 ∷ 45 ∷ []
    empty_row e = rw e (row_none [] refl)

    some_row : (a : Arc) (rest : List Arc) → entries ≡ a ∷ rest →
        row_text (map (λ b. b.to) entries) ≡ joined_over (λ (b : Arc). 32 ∷ number_text b.to) entries
    unfolding fields_text
    some_row a rest e = rw e (row_some (map (λ b. b.to) (a ∷ rest)) (λ z. omega arith) ∙ joined_entries (a ∷ rest))

    module _ (path : PathTo (network_of t) d u) where
      held : Memᴰ u order
      held = (its-given t good d place).in_free.all u path

      its_rank : rank_in_lem table u ≡ rank order u
      unfolding listed
      its_rank = ((lists t good d place).ranks u h).reached held

    line_is : PathTo (network_of t) d u → LineIs t d order table u (line_for t d table u)
    line_is path =
        let on-table = its_path t good d place u h path in
        let exact = figures_exact t good table (accepted t good d place) u h on-table in
        let its-figure = figure_at t good d place u h in
        let (schedule, long, (w, walked, most)) = exact.reached in
        record {
          rank = rank_in_lem table u;
          rank_below = rw (its_rank path) (rank-in order u (held path));
          turn = rw (its_rank path) (at_rank order (its-given t good d place).in_free.once u (held path));
          hops = figure_byte t table u;
          hops_below = hop_counts t good d place u h on-table;
          never_passed = λ s v e. rw its-figure at (exact.never_passed s v e);
          reached = (schedule, w, walked, rw its-figure at most);
          entries = entries;
          row_is = refl;
          if_empty = λ e. rw (empty_row e) at fields;
          if_not = λ a rest e. rw (some_row a rest e) at fields;
        }

    unreached : (PathTo (network_of t) d u → ⊥) → line_for t d table u ≡ listing_line d u 255 255 (32 ∷ 45 ∷ 10 ∷ [])
    unreached out =
        let s = sound_networks t good in
        let none = no_path_row (network_of t) s.well_formed d (omega (arith, s.routers)) (its-given t good d place).in_free t.limit u out in
        let off = no-path t good d place u h out in
        rw ((tells t good d place u h).unranked.0 off, no_count t good d place u h off, empty_row none) at fields

    line_by_path : LineByPath t d order table u (line_for t d table u)
    line_by_path = record { reached = line_is; unreached = unreached }

-- the lines are given to a buffer that they fit
fits : (t : Topology) → T (sound t) → (d : ℕ) → d < t.routers → (buffer : List ℕ) → length (lines_for t d) ≤ length buffer →
    listing t d buffer ≡ record { answer = answer 0 (length (lines_for t d)); buffer = lines_for t d ++ drop (length (lines_for t d)) buffer }
unfolding listing given
fits t good d place buffer h = rw (on_place_next, le-ltb (length buffer) (length (lines_for t d)) h)

pub lists_right : ListsRight
unfolding listing given turned_away lines_for
lists_right t good d place buffer =
    let s = sound_networks t good in
    record {
      order = order t good d place;
      by_rule = (built_by_rule (network_of t) s.well_formed d (omega (arith, s.routers)) shortest-path).0;
      table = table_for t d;
      given = its-given t good d place;
      accepted = accepted t good d place;
      line = line_for t d (table_for t d);
      lines = line_by_path t good d place;
      text = lines_for t d;
      text_is = refl;
      success = fits t good d place buffer;
      no_room = λ h. rw (on_place_next, lt-ltb (length buffer) (length (lines_for t d)) h);
    }

pub listing_refuses : ListingRefuses
unfolding listing turned_away
listing_refuses t d buffer =
    record {
      not_sound = on_place_unsound _ t d _;
      no_place = on_place_outside _ t d _;
    }

pub all_right : ListingRight
unfolding all_lines
all_right t good = record { text = lines_for t; each = fits t good; all = refl }
