-- Where each place's rank byte is its rank in an order, 255 where the order does not hold it, the place found for a rank is the one at that turn of the
-- order, and past the order none is found: so the ranks form that order, and then 255.
-- Assumes nothing.
use Prim.Native.Nat.{ℕ, zero, suc, ◌-◌, ◌≤◌, ◌<◌}
use mathlib.Core.List.{List, [], ◌∷◌, ◌++◌, append-nil, Memᴰ}
use mathlib.Core.Logic.{◌↔◌}
use mathlib.Core.Path.{◌≡◌, refl, sym, ap, ◌∙◌, subst}
use native.Mathlib.Decide.{dec_lt}
use native.Mathlib.Omega.{arith}
use borrow.Author.Tests.{lt-ltb, le-ltb, eq-eqb, ne_eqb}
use lib.Dec.{eqb, ltb}
use lib.ListN.{length, get_or, take, drop, replicate, get_or-append}
use lib.Seq.{split_at, length-take-le, ext_get_or}
use Rattle.network.specs.Lists.{below, keep, Distinct}
use Rattle.network.specs.Row.{rank}
use Rattle.network.proofs.Below.{get_d_below, length_map_below}
use Rattle.network.proofs.Lists.{pairwise_split}
use Rattle.network.proofs.Pigeon.{member?}
use Rattle.network.proofs.Rank.{rank-in, rank_is_turn}
use Rattle.topology_types.specs.Outcome.{first_or}
use Rattle.topology_types.specs.Topology.{padded}
use Rattle.order.specs.Calls.{order_bytes}
use Rattle.order_standings.proofs.Counts.{keep_append}
use Rattle.order.proofs.First.{first_below, none_below}
use Rattle.order.proofs.After.{past_part}
use Rattle.order.proofs.Reached.{bytes_long}
use Rattle.order.proofs.Ranges.{get_d_mem, mem_get_d}
use Rattle.table_rows.specs.Bytes.{rank_or_none}
use Rattle.table_rows.proofs.RankBytes.{rank_byte_held, rank_byte_none}
use Rattle.table.specs.Listed.{rank_in_lem, by_rank}
use Rattle.table.specs.Theorems.{RankAt}

module _ (order : List ℕ) (once : Distinct order) where
  -- the place at a turn of the order has that rank, and a place of the order stands at the turn of its rank
  pub rank_at : (r : ℕ) → r < length order → rank order (get_or order r 0) ≡ r
  rank_at r h =
      let before = take r order in
      let u = get_or order r 0 in
      let after = drop (suc r) order in
      let e = split_at order r 0 h in
      let out : Memᴰ u before → ⊥ = λ m. pairwise_split before u after (subst Distinct e once) u m refl in
      ap (λ (l : List ℕ). rank l u) e ∙ (rank_is_turn u).0 before after out ∙ length-take-le r order (omega arith)

  pub at_rank : (u : ℕ) → Memᴰ u order → get_or order (rank order u) 0 ≡ u
  at_rank u m =
      let (i, h, e) = mem_get_d 0 m in
      ap (λ (r : ℕ). get_or order r 0) (sym (ap (rank order) e) ∙ rank_at i h) ∙ e

module _ (count : ℕ) (table : List ℕ) where
  -- the place whose row has the rank r
  abbrev found : ℕ → ℕ
  found r = first_or 255 (keep (λ u. eqb (rank_in_lem table u) r) (below count))

  pub long : length (by_rank count table) ≡ count
  unfolding by_rank
  long = length_map_below found count

  at : (r : ℕ) → r < count → get_or (by_rank count table) r 0 ≡ found r
  unfolding by_rank
  at r h = get_d_below found count r 0 h

-- 02, #107: a rank byte as `rank_or_none` has it
pub as_byte : (order : List ℕ) (u byte : ℕ) → RankAt order u byte ↔ (byte ≡ rank_or_none order u)
as_byte order u byte = (to (member? u order), from)
  where
    to : Dec (Memᴰ u order) → RankAt order u byte → byte ≡ rank_or_none order u
    to (yes m) a = a.reached m ∙ sym (rank_byte_held order u m)
    to (no out) a = a.unreached out ∙ sym (rank_byte_none order u out)

    from : byte ≡ rank_or_none order u → RankAt order u byte
    from e = record { reached = λ m. e ∙ rank_byte_held order u m; unreached = λ out. e ∙ rank_byte_none order u out }

-- places below a number are kept, and 255 is none of them
keep_each : (count : ℕ) (us : List ℕ) → ((u : ℕ) → Memᴰ u us → u < count) → keep (λ u. ltb u count) us ≡ us
keep_each count [] h = refl
keep_each count (u ∷ us) h = rw (lt-ltb u count (h u (mathlib.Core.List.Memᴰ.head refl)), keep_each count us (λ v m. h v (mathlib.Core.List.Memᴰ.tail m)))

keep_after : (count k : ℕ) → count ≤ 64 → keep (λ u. ltb u count) (replicate k 255) ≡ []
keep_after count zero few = refl
keep_after count (suc k) few = rw (le-ltb 255 count (omega arith)) (keep_after count k few)

-- of none the first is the number that stands for it
first_none : {xs : List ℕ} (z : ℕ) → xs ≡ [] → first_or z xs ≡ z
unfolding first_or
first_none z e = rw e

module _ (count : ℕ) (few : count ≤ 64) (order : List ℕ) (short : length order ≤ count) (places : (u : ℕ) → Memᴰ u order → u < count) where
  -- the places of the order, and then 255, of which the places are the order
  pub kept : keep (λ u. ltb u count) (order_bytes count order) ≡ order
  unfolding order_bytes padded
  kept =
      keep_append (λ u. ltb u count) order (replicate (count - length order) 255)
      ∙ rw (keep_each count order places, keep_after count (count - length order) few) (append-nil order)

  pub ordered : (table : List ℕ) → Distinct order → ((u : ℕ) → u < count → rank_in_lem table u ≡ rank_or_none order u) → by_rank count table ≡ order_bytes count order
  unfolding order_bytes padded
  ordered table once ranks =
      ext_get_or 0 (by_rank count table) (order_bytes count order) (long count table ∙ sym (bytes_long count order short))
      (λ r h. let l : r < count = omega (arith, long count table) in at count table r l ∙ there r l (dec_lt r (length order)))
    where
      -- a place that has a rank below N stands in the order, at that turn
      turn : (u r : ℕ) → u < count → r < count → rank_in_lem table u ≡ r → Dec (Memᴰ u order) → (r < length order) × (get_or order r 0 ≡ u)
      turn u r h k e (yes m) =
          let is : rank order u ≡ r = sym (rank_byte_held order u m) ∙ sym (ranks u h) ∙ e in
          (omega (arith, rank-in order u m), sym (ap (λ (i : ℕ). get_or order i 0) is) ∙ at_rank order once u m)
      turn u r h k e (no out) = absurd (omega (arith, ranks u h, rank_byte_none order u out))

      there : (r : ℕ) → r < count → Dec (r < length order) → found count table r ≡ get_or (order ++ replicate (count - length order) 255) r 0
      there r h (yes l) =
          let u = get_or order r 0 in
          let m = get_d_mem order r 0 l in
          let u_in = places u m in
          first_below (λ v. eqb (rank_in_lem table v) r) count u 255 u_in
          (λ k b. ne_eqb (rank_in_lem table k) r
          (λ e. let j : k < count = omega arith in omega (arith, (turn k r j h e (member? k order)).1)))
          (eq-eqb (rank_in_lem table u) r (ranks u u_in ∙ rank_byte_held order u m ∙ rank_at order once r l))
          ∙ sym (get_or-append order (replicate (count - length order) 255) 0 r l)
      there r h (no past) =
          first_none 255
          (none_below (λ v. eqb (rank_in_lem table v) r) count (λ k j. ne_eqb (rank_in_lem table k) r (λ e. past (turn k r j h e (member? k order)).0)))
          ∙ sym (past_part order count r (omega arith) h)

-- a first number that is not the one for an empty list begins the list
pub begins : (xs : List ℕ) (z u : ℕ) → first_or z xs ≡ u → u < z → (rest : List ℕ) × (xs ≡ u ∷ rest)
unfolding first_or
begins [] z u e h = absurd (omega arith)
begins (x ∷ xs) z u e h = (xs, ap (λ (y : ℕ). y ∷ xs) e)
