-- Schedules as bytes and as rows: a length is sound exactly if it is so many rows, at least N - 1, with no links too. N - 1 rows laid end to end are these
-- rows again.
-- Assumes nothing.
use Prim.Native.Nat.{ℕ, zero, suc, pred, ◌+◌, ◌*◌, ◌≤◌, ◌<◌}
use mathlib.Core.Bool.{Bool, false, not, true≢false}
use mathlib.Core.List.Memᴰ
use mathlib.Core.List.{List, [], ◌∷◌, Memᴰ}
use mathlib.Core.List.{map, nil≢cons, head-eq_of_cons-eq}
use mathlib.Core.Logic.{◌↔◌}
use mathlib.Core.Path.{◌≡◌, refl, sym, ◌∙◌, subst}
use native.Mathlib.Decide.{dec_lt}
use native.Mathlib.Nat.{not-suc-le-zero, le_of_suc-le-suc, mul-zero, zero-mul, suc-mul, mul-le-mul_right, le-mul_of_pos_right}
use native.Mathlib.Omega.{arith}
use borrow.Author.Tests.{not-true, not-false, leb-true, leb-false, eqb-true, le-leb, lt-leb, eq-eqb}
use lib.Dec.{T, eqb, leb, ltb, lt→ltb}
use lib.ListN.{length, get_or, take, drop, length-append, length-drop, take-append-drop, drop_of_length-le}
use lib.Seq.{length-take-le, take_at, drop-cons, ext_get_or, drop-append-add}
use Rattle.network.specs.Lists.{below}
use Rattle.network.proofs.Lists.{mem_take}
use Rattle.network.proofs.Below.{get_d_below, length_map_below}
use Rattle.topology_types.specs.declared.Topology.{Topology}
use Rattle.topology_types.specs.Outcome.{first_or}
use Rattle.order.proofs.Ranges.{get_d_mem, mem_get_d, keep_none, none_passes, keep_first, first_passes}
use Rattle.topology.specs.Written.{joined_over}
use Rattle.table.proofs.Ordered.{begins}
use Rattle.forwarding_rules.specs.Schedule.{row_in, row_counts, rows_in, sound_length, wrong_states}
use Rattle.forwarding_rules.specs.Theorems.{WholeRows, FirstOver}

-- 23: which bytes are over 1
module _ (states : List ℕ) where
  abbrev wrong? : ℕ → Bool
  wrong? i = not (leb (get_or states i 0) 1)

  right_at : (i : ℕ) → wrong? i ≡ false → get_or states i 0 ≤ 1
  right_at i e = leb-true _ _ (not-false (leb (get_or states i 0) 1) e)

  passes_at : (i : ℕ) → get_or states i 0 ≤ 1 → wrong? i ≡ false
  passes_at i h = rw (le-leb (get_or states i 0) 1 h)

  pub none_over : (wrong_states states ≡ []) ↔ ((b : ℕ) → Memᴰ b states → b ≤ 1)
  unfolding wrong_states below
  none_over = (
    λ none b m.
        let (i, h, e) = mem_get_d 0 m in
        rw e at (right_at i (none_passes wrong? 0 (length states) none i (omega arith) (omega arith))),
    λ small. keep_none wrong? 0 (length states) (λ i h l. passes_at i (small _ (get_d_mem states i 0 (omega arith)))),
  )

  pub first-over : (i : ℕ) (rest : List ℕ) → wrong_states states ≡ i ∷ rest → FirstOver states i
  unfolding wrong_states below
  first-over i rest e =
      let w = first_passes wrong? 0 (length states) i rest e in
      record {
        within = omega (arith, w.within);
        over = leb-false _ _ (not-true (leb (get_or states i 0) 1) w.passes);
        earlier = λ k h. right_at k (w.earlier k (omega arith) h);
      }

  pub over_first : (i : ℕ) → FirstOver states i → (rest : List ℕ) × (wrong_states states ≡ i ∷ rest)
  unfolding wrong_states below
  over_first i f =
      begins (wrong_states states) (length states) i
      (keep_first wrong? (length states) 0 (length states) i
      (record {
        least = omega arith;
        within = omega (arith, f.within);
        passes = rw (lt-leb (get_or states i 0) 1 f.over);
        earlier = λ k l h. passes_at k (f.earlier k h);
      }))
      f.within

-- 22: the number of rows that a length gives
module _ (routers links long : ℕ) where
  abbrev is_long : ℕ → Bool
  is_long k = eqb (k * links) long

  -- the number that is found
  abbrev pub count : ℕ
  count = first_or 0 (row_counts routers links long)

  pub counted : T (sound_length routers links long) → (count * links ≡ long) × (pred routers ≤ count)
  unfolding sound_length row_counts first_or
  counted = step (row_counts routers links long) refl
    where
      step : (ks : List ℕ) → row_counts routers links long ≡ ks → T (ltb 0 (length ks)) → (first_or 0 ks * links ≡ long) × (pred routers ≤ first_or 0 ks)
      step [] e some = absurd some
      step (k ∷ ks) e some = let f = first_passes is_long (pred routers) _ k ks e in (eqb-true _ _ f.passes, f.least)

  -- one is found where so many rows are so long: with links they are at most the bytes, and with none N - 1 will do
  pub counts : (k : ℕ) → k * links ≡ long → pred routers ≤ k → T (sound_length routers links long)
  unfolding sound_length row_counts
  counts k e enough = step (dec_lt 0 links)
    where
      found : (j : ℕ) → j * links ≡ long → pred routers ≤ j → j ≤ pred routers + long → (ks : List ℕ) → row_counts routers links long ≡ ks →
          T (ltb 0 (length ks))
      found j is least few [] none =
          absurd (true≢false (sym (eq-eqb (j * links) long is) ∙ none_passes is_long (pred routers) _ none j least (omega arith)))
      found j is least few (i ∷ others) some = lt→ltb 0 (suc (length others)) (omega arith)

      step : Dec (0 < links) → T (ltb 0 (length (row_counts routers links long)))
      step (yes some) = found k e enough (omega (arith, le-mul_of_pos_right k some)) (row_counts routers links long) refl
      step (no none) =
          let links_are : links ≡ 0 = omega arith in
          found (pred routers) (rw (links_are, mul-zero) (rw (links_are, mul-zero) at e)) (omega arith) (omega arith)
          (row_counts routers links long) refl

-- N - 1 rows are counted as that many
pub least_count : (routers links : ℕ) → first_or 0 (row_counts routers links (pred routers * links)) ≡ pred routers
unfolding row_counts
least_count routers links =
    keep_first (λ k. eqb (k * links) (pred routers * links)) 0 (pred routers) _ (pred routers)
    (record {
      least = omega arith;
      within = omega arith;
      passes = eq-eqb (pred routers * links) (pred routers * links) refl;
      earlier = λ i l h. absurd (omega arith);
    })

-- the rows of a schedule: so many, and its bytes are that many rows, enough for every walk
pub record Rows (t : Topology) (schedule : List ℕ) : Type 0 where
  pub count : ℕ
  pub are : rows_in t.routers t.links schedule ≡ map (row_in t.links schedule) (below count)
  pub whole : length schedule ≡ count * t.links
  pub enough : pred t.routers ≤ count

module _ (t : Topology) (schedule : List ℕ) where
  pub sound-length : T (sound_length t.routers t.links (length schedule)) ↔ WholeRows t schedule
  sound-length = (
    λ s. let (e, h) = counted t.routers t.links (length schedule) s in record { rows = _; whole = sym e; enough = h },
    λ w. counts t.routers t.links (length schedule) w.rows (sym w.whole) w.enough,
  )

  pub rows_of : WholeRows t schedule → Rows t schedule
  unfolding rows_in
  rows_of w =
      let (e, h) = counted t.routers t.links (length schedule) (sound-length.1 w) in
      record { count = _; are = refl; whole = sym e; enough = h }

-- one row of a schedule
module _ (links : ℕ) (schedule : List ℕ) where
  pub row_mem : (h : ℕ) {b : ℕ} → Memᴰ b (row_in links schedule h) → Memᴰ b schedule
  unfolding row_in
  row_mem h {b} m =
      subst (Memᴰ b) (take-append-drop (h * links) schedule)
      (Memᴰ.append_right (take (h * links) schedule) (mem_take links (drop (h * links) schedule) m))

  module _ (count : ℕ) (whole : length schedule ≡ count * links) (h : ℕ) (inside : h < count) where
    pub row_fits : h * links + links ≤ length schedule
    row_fits = let most : suc h * links ≤ count * links = mul-le-mul_right links inside in omega (arith, suc-mul h links)

    pub row_long : length (row_in links schedule h) ≡ links
    unfolding row_in
    row_long = length-take-le links (drop (h * links) schedule) (omega (arith, length-drop (h * links) schedule, row_fits))

-- what is left of a run from turn h on begins with what stands at h
pub drop_run : {A : Type 0} (f : ℕ → A) (count h : ℕ) {x : A} {rest : List A} → drop h (map f (below count)) ≡ x ∷ rest → (h < count) × (x ≡ f h)
drop_run f count h {x} e = step (dec_lt h count)
  where
    step : Dec (h < count) → (h < count) × (x ≡ f h)
    step (yes l) =
        (l, head-eq_of_cons-eq (sym e ∙ drop-cons (map f (below count)) h x (omega (arith, length_map_below f count))) ∙ get_d_below f count h x l)
    step (no past) = absurd (nil≢cons (sym (drop_of_length-le (map f (below count)) {i = h} (omega (arith, length_map_below f count))) ∙ e))

-- rows laid end to end
abbrev pub joined : List (List ℕ) → List ℕ
joined rows = joined_over (λ row. row) rows

module _ (links : ℕ) where
  -- all rows have one byte per link
  abbrev pub Wide : List (List ℕ) → Type 0
  Wide rows = (row : List ℕ) → Memᴰ row rows → length row ≡ links

  pub joined_long : (rows : List (List ℕ)) → Wide rows → length (joined rows) ≡ length rows * links
  unfolding joined_over
  joined_long [] wide = sym (zero-mul links)
  joined_long (r ∷ rs) wide =
      rw (length-append, joined_long rs (λ row m. wide row (Memᴰ.tail m)), wide r (Memᴰ.head refl), suc-mul) (omega arith)

  joined_row : (rows : List (List ℕ)) → Wide rows → (h : ℕ) → h < length rows → row_in links (joined rows) h ≡ get_or rows h []
  unfolding joined_over row_in
  joined_row [] wide h l = absurd (not-suc-le-zero l)
  joined_row (r ∷ rs) wide zero l = rw zero-mul (take_at r (joined rs) links (wide r (Memᴰ.head refl)))
  joined_row (r ∷ rs) wide (suc h) l =
      let skip : suc h * links ≡ length r + h * links = omega (arith, suc-mul h links, wide r (Memᴰ.head refl)) in
      rw (skip, drop-append-add r (joined rs) (h * links)) (joined_row rs (λ row m. wide row (Memᴰ.tail m)) h (le_of_suc-le-suc l))

  pub rows_again : (routers : ℕ) (rows : List (List ℕ)) → Wide rows → length rows ≡ pred routers → rows_in routers links (joined rows) ≡ rows
  unfolding rows_in
  rows_again routers rows wide many =
      rw (joined_long rows wide, many, least_count routers links, ← many)
      (ext_get_or [] (map (row_in links (joined rows)) (below (length rows))) rows (length_map_below _ (length rows))
      (λ i l.
      let here : i < length rows = omega (arith, length_map_below (row_in links (joined rows)) (length rows)) in
      get_d_below (row_in links (joined rows)) (length rows) i [] here ∙ joined_row rows wide i here))
