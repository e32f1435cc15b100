-- What the functions that fill and check go by: an order that judging lets through, and the order that the ranks of a table form. Both are as many as the
-- reached routers, and filling takes them.
-- Assumes nothing.
use Prim.Native.Nat.{ℕ, ◌+◌, ◌*◌, ◌≤◌, ◌<◌}
use mathlib.Core.Bool.{true, false}
use mathlib.Core.List.{List, ◌++◌, append_assoc}
use mathlib.Core.Path.{◌≡◌, refl, sym, ap, ◌∙◌}
use native.Mathlib.Omega.{arith}
use borrow.Author.Tests.{lt-ltb, le-ltb, ne_eqb}
use lib.Dec.{T, eqb, ltb}
use lib.ListN.{length, get_or, take, drop, length-take}
use lib.Seq.{take_at}
use Rattle.std.proofs.Common.{Some, Result, Ok, Err}
use Rattle.std.specs.Result.{is_err}
use Rattle.network.specs.Lists.{below, keep, every}
use Rattle.network.specs.Order.{free, build}
use Rattle.network.specs.Theorems.Order.{Accepted}
use Rattle.topology_types.specs.declared.Refusal.{Refusal}
use Rattle.topology_types.specs.declared.Topology.{Topology}
use Rattle.topology_types.specs.declared.Answer.{Answer}
use Rattle.topology_types.specs.Outcome.{answer, number_of, refused, tested, given, turned_away}
use Rattle.topology_types.specs.Topology.{padded, network_of}
use Rattle.topology_types.proofs.Outcome.{numbered}
use Rattle.topology_sound.specs.Sound.{sound}
use Rattle.topology_sound.specs.Place.{on_place}
use Rattle.topology_sound.proofs.Place.{on_place_ok}
use Rattle.topology_sound.proofs.Sound.{sound_exact}
use Rattle.arcs.specs.declared.Arcs.{Arcs}
use Rattle.arcs.specs.Inner.{Laid}
use Rattle.distances.specs.Inner.{LaidIn, Settled}
use Rattle.distances.proofs.Laid.{laid_out}
use Rattle.order_standings.specs.declared.Mode.{Mode}
use Rattle.order_standings.specs.declared.Mode.TheVariants as mode
use Rattle.order.specs.Calls.{mode_of, reached_count_lem, order_bytes, first_of, judging, checking}
use Rattle.order.specs.Inner.{Measured}
use Rattle.order.proofs.Turn.{counts_reached}
use Rattle.table_rows.specs.Layout.{narrow, row_start_lem, table_length, number_at}
use Rattle.table_rows.specs.Bytes.{table_bytes}
use Rattle.table_rows.specs.Inner.{Fillable}
use Rattle.table.specs.Listed.{destination_in_lem, limit_in_lem, rank_in_lem, order_in}
use Rattle.table.specs.Calls.{sound_header, sound_ranks, right_bytes, wrong_bytes, differing, unless_refused, filling, built_table}
use Rattle.table.specs.Inner.{Started, first_wrong_lem}
use Rattle.table.specs.Theorems.{TableIs}
use Rattle.table.proofs.Accepting.{header_limit, header_place}
use Rattle.table.proofs.Bytes.{bytes_exact}
use Rattle.table.proofs.Calling.{let_through, in_free, free_long, fillable, built_free, ranks_same}
use Rattle.table.proofs.Verdicts.{table_long}

-- what is refused is what checking the order answers
pub filling_refused : (t : Topology) (d : ℕ) (order buffer : List ℕ) (r : Refusal) → refused r ≡ checking t d mode.Free order →
    record { answer = refused r; buffer = buffer } ≡ filling t d order buffer
unfolding filling unless_refused turned_away
filling_refused t d order buffer r e = rw (← e, ne_eqb (number_of r.fault) 0 (λ z. omega (arith, numbered r.fault, z)))

-- the destination in a sound header is a place
pub header_destination : (t : Topology) → T (sound t) → (table : List ℕ) → T (sound_header t.routers table) → destination_in_lem table < t.routers
unfolding destination_in_lem number_at
header_destination = header_place

-- a sound topology with its arcs, a place of it, and the distances there
pub measured_at : {t : Topology} {a : Arcs} {ds : List ℕ} {d : ℕ} → T (sound t) → d < t.routers → Laid t a → Settled (network_of t) d ds → Measured t a d ds
measured_at good place laid settled = record { is-sound = good; holds = laid; place = place; settled = settled }

-- a place that was tested, the arcs of a sound topology, and the distances to the place
pub measured : {t : Topology} {a : Arcs} {ds : List ℕ} {d : ℕ} → answer 0 0 ≡ on_place answer t d (answer 0 0) → Laid t a → Settled (network_of t) d ds → Measured t a d ds
measured {t} {d} e laid settled = let (good, place) = on_place_ok t d e in measured_at good place laid settled

-- the same, by distances that are those of every topology that has these arcs
pub placed_at : {t : Topology} {a : Arcs} {ds : List ℕ} {d : ℕ} → T (sound t) → d < t.routers → Laid t a →
    ((s : Topology) → LaidIn s a t.routers → Settled (network_of s) d ds) → Measured t a d ds
placed_at {t} good place laid settled = measured_at good place laid (settled t (laid_out good laid))

pub placed : {t : Topology} {a : Arcs} {ds : List ℕ} {d : ℕ} → answer 0 0 ≡ on_place answer t d (answer 0 0) → Laid t a →
    ((s : Topology) → LaidIn s a t.routers → Settled (network_of s) d ds) → Measured t a d ds
placed {t} {d = d} e laid settled = measured e laid (settled t (laid_out (on_place_ok t d e).0 laid))

-- a result that is an error has a number
pub err_number : (r : Result (Unit {0}) Refusal) → is_err r ≡ true → (tested r).number ≡ 0 → ⊥
err_number (Ok x) e z = absurd cc
err_number (Err r) e z = omega (arith, numbered r.fault, z)

pub ok_number : (r : Result (Unit {0}) Refusal) → is_err r ≡ false → (tested r).number ≡ 0
ok_number (Ok x) e = refl
ok_number (Err r) e = absurd cc

-- the distances to d, and so how many routers are reached
abbrev pub Reached : Topology → List ℕ → ℕ → Type 0
Reached t ds reached = reached ≡ length (keep (λ v. ltb (get_or ds v 0) (t.routers * 65536)) (below t.routers))

module _ {t : Topology} {a : Arcs} {ds : List ℕ} {d : ℕ} (m : Measured t a d ds) where
  pub few : t.routers ≤ 64
  few = ((sound_exact t).0 m.is-sound).routers_most

  limit_most : t.limit ≤ 16
  limit_most = ((sound_exact t).0 m.is-sound).limit_most

  counted : {reached : ℕ} → Reached t ds reached → reached ≡ reached_count_lem (network_of t) d
  counted r = r ∙ counts_reached m

  -- an order that judging lets through
  module _ (order : List ℕ) (through : answer 0 0 ≡ judging t d mode.Free order) where
    zero : (judging t d mode.Free order).number ≡ 0
    zero = ap (λ (x : Answer). x.number) (sym through)

    part_free : Accepted (network_of t) d free (take (reached_count_lem (network_of t) d) order)
    part_free = (in_free t m.is-sound d m.place order zero).0

    pub part_long : {reached : ℕ} → Reached t ds reached → reached ≡ length (take reached order)
    part_long r = let e = counted r in rw e (sym (free_long t m.is-sound d m.place part_free))

    pub part_fillable : {reached : ℕ} → Reached t ds reached → Fillable t a ds d t.limit (take reached order)
    part_fillable r = rw (counted r) (fillable t m.is-sound d m.place m.holds m.settled limit_most part_free)

    abbrev bytes : List ℕ
    bytes = table_bytes (network_of t) d t.limit (take (reached_count_lem (network_of t) d) order)

    module _ (buffer : List ℕ) (needed : ℕ) (e : needed ≡ row_start_lem narrow t.routers) where
      whole : checking t d mode.Free order ≡ answer 0 0
      whole = let_through t m.is-sound d m.place order zero

      as_needed : length bytes ≡ needed
      unfolding row_start_lem
      as_needed = table_long t m.is-sound ((bytes_exact (network_of t) d t.limit limit_most _ _).0 refl) ∙ sym e

      pub filling_short : length buffer < needed → record { answer = answer 24 needed; buffer = buffer } ≡ filling t d order buffer
      unfolding filling unless_refused given turned_away
      filling_short h = rw (whole, as_needed, lt-ltb _ _ h)

      pub filling_room : needed ≤ length buffer → table_length narrow t.routers ≤ length buffer
      filling_room h = rw (← e) h

      pub filling_whole : needed ≤ length buffer → {reached : ℕ} → Reached t ds reached → (out : List ℕ) →
          out ≡ table_bytes (network_of t) d t.limit (take reached order) ++ drop (table_length narrow t.routers) buffer →
          record { answer = answer 0 needed; buffer = out } ≡ filling t d order buffer
      unfolding filling unless_refused given turned_away
      filling_whole h r out put = rw (whole, as_needed, le-ltb _ _ h, put, counted r, e)

  -- an order that is built
  module _ (by : Mode) (out rest : List ℕ) (e : out ≡ order_bytes t.routers (build (network_of t) d (mode_of by)) ++ rest) (reached : ℕ) (r : Reached t ds reached) where
    abbrev order : List ℕ
    order = build (network_of t) d (mode_of by)

    order_free : Accepted (network_of t) d free order
    order_free = built_free t m.is-sound d m.place by

    order_long : length order ≡ reached
    order_long = free_long t m.is-sound d m.place order_free ∙ sym (counted r)

    front : take reached out ≡ order
    unfolding order_bytes padded
    front = rw (e, append_assoc) (take_at order _ reached order_long)

    pub built_fits : reached ≡ length (take reached out)
    built_fits = sym (ap length front ∙ order_long)

    pub built_within : reached ≤ length out
    built_within = omega (arith, built_fits, length-take reached out)

    pub built_fillable : Fillable t a ds d t.limit (take reached out)
    built_fillable = rw front (fillable t m.is-sound d m.place m.holds m.settled limit_most order_free)

    pub built_front : (k : ℕ) → k ≡ row_start_lem narrow t.routers → (bytes after : List ℕ) →
        bytes ≡ table_bytes (network_of t) d t.limit (take reached out) ++ after → take k bytes ≡ built_table t d (mode_of by)
    unfolding built_table row_start_lem
    built_front k same bytes after put =
        rw (put, front) (take_at _ after k (table_long t m.is-sound ((bytes_exact (network_of t) d t.limit limit_most order _).0 refl) ∙ sym same))

-- a table whose length and header were tested, and the order that its ranks form
module _ {t : Topology} {a : Arcs} {ds table order : List ℕ} (s : Started t a ds table order) where
  abbrev pub formed : List ℕ
  formed = order_in t.routers table

  header_most : limit_in_lem table ≤ 16
  unfolding limit_in_lem
  header_most = header_limit t s.measured.is-sound table s.header

  pub started_long : length table ≡ 4 + 19 * t.routers
  unfolding row_start_lem
  started_long = s.long

  -- what filling would give
  abbrev pub right : List ℕ
  right = table_bytes (network_of t) (destination_in_lem table) (limit_in_lem table) formed

  right_is : TableIs (network_of t) (destination_in_lem table) (limit_in_lem table) formed right
  right_is = (bytes_exact (network_of t) _ _ header_most formed right).0 refl

  pub right_long : length right ≡ length table
  right_long = table_long t s.measured.is-sound right_is ∙ sym started_long

  module _ {reached : ℕ} (r : Reached t ds reached) where
    formed_long : reached ≡ length formed
    formed_long = r ∙ counts_reached s.measured ∙ sym (free_long t s.measured.is-sound _ s.measured.place s.in_free)

    formed_part : take reached order ≡ formed
    unfolding order_bytes padded
    formed_part = ap (take reached) (s.order_is ∙ s.bytes_are) ∙ take_at formed _ reached (sym formed_long)

    pub formed_fits : reached ≡ length (take reached order)
    formed_fits = formed_long ∙ sym (ap length formed_part)

    pub formed_fillable : {d limit : ℕ} → d ≡ destination_in_lem table → limit ≡ limit_in_lem table → Fillable t a ds d limit (take reached order)
    formed_fillable same_d same_limit =
        let m = s.measured in
        rw (same_d, same_limit, formed_part) (fillable t m.is-sound _ m.place m.holds m.settled header_most s.in_free)

    -- a room that is filled with it begins with what filling would give
    pub room_right : {d limit : ℕ} → d ≡ destination_in_lem table → limit ≡ limit_in_lem table → (out rest : List ℕ) →
        out ≡ table_bytes (network_of t) d limit (take reached order) ++ rest → take (length table) out ≡ right
    room_right same_d same_limit out rest put = rw (put, same_d, same_limit, formed_part) (take_at right rest (length table) right_long)

  -- so it is as long as the table
  module _ (out : List ℕ) (e : take (length table) out ≡ right) where
    pub room_long : length table ≡ length (take (length table) out)
    room_long = sym (ap length e ∙ right_long)

    pub room_fits : length table ≤ length out
    room_fits = omega (arith, room_long, length-take (length table) out)

  -- the ranks are sound if they agree with those of what filling would give
  pub ranks_tell : sound_ranks (network_of t) t.routers table ≡ every (λ u. eqb (rank_in_lem table u) (rank_in_lem right u)) (below t.routers)
  ranks_tell = ranks_same t s.measured.is-sound table right _ _ refl s.measured.place s.in_free right_is

  pub wrong_rank : sound_ranks (network_of t) t.routers table ≡ false → Some 0 ≡ first_wrong_lem (network_of t) t.routers table
  unfolding first_wrong_lem
  wrong_rank e = rw e

  pub wrong_bytes_tell : sound_ranks (network_of t) t.routers table ≡ true → first_of (differing table right) ≡ first_wrong_lem (network_of t) t.routers table
  unfolding first_wrong_lem wrong_bytes right_bytes
  wrong_bytes_tell e = rw e
