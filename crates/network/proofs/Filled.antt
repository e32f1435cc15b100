-- The key of shortest next hops, the router's distance, is the least there is, so they come first in a row. What a router was a candidate behind ranks
-- below it, so under an accepted order its row is not empty, and in shortest-path mode it has every shortest next hop.
-- Assumes nothing.
use Prim.Native.Nat.{ℕ, zero, suc, ◌≤◌}
use mathlib.Core.List.Memᴰ
use mathlib.Core.List.{List, [], ◌∷◌, Memᴰ, cons≢nil}
use mathlib.Core.Logic.{◌≢◌, ◌⊎◌, inl, inr, ⊎_elim}
use mathlib.Core.Path.{◌≡◌, refl, sym, ◌∙◌, ap}
use native.Mathlib.Decide.{ℕ_discrete}
use native.Mathlib.Omega.{arith}
use lib.ListN.{take}
use Rattle.network.specs.Lists.{Pairwise, nothing, then}
use Rattle.network.specs.Network.{Arc, Network}
use Rattle.network.specs.Distance.{distance}
use Rattle.network.specs.Order.{shortest-path, free}
use Rattle.network.specs.Row.{row}
use Rattle.network.specs.Theorems.Order.{via}
use Rattle.network.specs.Theorems.Row.{Before, Begins, ShortestFirst, AllShortestFirst, RowsFilled, RanksBelow}
use Rattle.network.proofs.Lists.{empty}
use Rattle.network.proofs.NextHop.{no_less, through_path}
use Rattle.network.proofs.Order.{acceptance_exact, order_fits}
use Rattle.network.proofs.Rank.{rank-in, rank_of_d, placed_before}
use Rattle.network.proofs.Row.{full_row_exact, rows_sound}

not_empty : {A : Type 0} (limit : ℕ) → 1 ≤ limit → {x : A} {xs : List A} → Memᴰ x xs → take limit xs ≢ []
not_empty zero h m = absurd (omega arith)
not_empty (suc limit) h (Memᴰ.head e) = cons≢nil
not_empty (suc limit) h (Memᴰ.tail m) = cons≢nil

-- a list that rises by key, with no key below the least, begins with those that have the least
least_first : (n : Network) (d least : ℕ) {xs : List Arc} → Pairwise (Before n d) xs → ((a : Arc) → Memᴰ a xs → least ≤ via n d a) →
    Begins xs (λ a. Memᴰ a xs × (via n d a ≡ least))
least_first n d least nothing h = ([], [], refl, λ a. (λ m. absurd (Memᴰ.not-nil m), λ (m, e). m))
least_first n d least (then {x} {xs} later p) h =
    step (ℕ_discrete (via n d x) least) (least_first n d least p (λ a m. h a (Memᴰ.tail m)))
  where
    past : via n d x ≢ least → (a : Arc) → (a ≡ x) ⊎ Memᴰ a xs → via n d a ≢ least
    past apart a (inl same) e = apart (ap (via n d) (sym same) ∙ e)
    past apart a (inr m) e =
        let l : least ≤ via n d x = h x (Memᴰ.head refl) in
        ⊎_elim (λ k. omega arith) (λ k. omega arith) (later a m)

    step : Dec (via n d x ≡ least) → Begins xs (λ a. Memᴰ a xs × (via n d a ≡ least)) → Begins (x ∷ xs) (λ a. Memᴰ a (x ∷ xs) × (via n d a ≡ least))
    step (yes e) (front, back, same, has) = (
      x ∷ front,
      back,
      ap (λ (l : List Arc). x ∷ l) same,
      λ a. (
        λ m. ⊎_elim (λ i. (Memᴰ.head i, ap (via n d) i ∙ e)) (λ k. let (l, q) = (has a).0 k in (Memᴰ.tail l, q)) (Memᴰ.cases_cons m),
        λ (m, q). ⊎_elim (λ i. Memᴰ.head i) (λ k. Memᴰ.tail ((has a).1 (k, q))) (Memᴰ.cases_cons m),
      ),
    )
    step (no apart) rest =
        ([], x ∷ xs, refl, λ a. (λ m. absurd (Memᴰ.not-nil m), λ (m, q). absurd (past apart a (Memᴰ.cases_cons m) q)))

pub shortest_first : ShortestFirst
shortest_first n wf d in_network order u =
    let r = full_row_exact n wf d in_network order u in
    let (front, back, e, has) = least_first n d (distance n d u) r.rising (λ a m. no_less n wf d in_network u a ((r.holds a).0 m).0) in (
      front,
      back,
      e,
      λ a. (λ m. let (k, q) = (has a).0 m in let (l, lower) = (r.holds a).0 k in ((l, q), lower), λ ((l, q), lower). (has a).1 ((r.holds a).1 (l, lower), q)),
    )

pub all_shortest_first : AllShortestFirst
all_shortest_first n wf d in_network order t u other =
    let (front, back, e, has) = shortest_first n wf d in_network order u in (
      front,
      back,
      e,
      λ a. (
        λ m. ((has a).0 m).0,
        λ (m, q).
            let p = through_path n wf d in_network u a m q in
            let (placed, c, lower) = placed_before ((acceptance_exact n wf d in_network shortest-path order).0 t) u p other in
            (has a).1 ((m, q), lower a.to (c.next_hops a (m, q))),
      ),
    )

pub rows_filled : RowsFilled
unfolding row
rows_filled n wf d in_network limit order t =
    let accepted = (acceptance_exact n wf d in_network free order).0 t in
    record {
      some_entry = λ h u p other.
          let (placed, c, lower) = placed_before accepted u p other in
          let (a, m, k) = c.next_hops in
          not_empty limit h (((full_row_exact n wf d in_network order u).holds a).1 (m, lower a.to k));
      no_entry = empty _ (λ a m. omega (arith, (rows_sound n wf d in_network limit order d).lower a m, rank_of_d accepted));
    }

pub ranks_below : RanksBelow
ranks_below n wf d in_network order t =
    let accepted = (acceptance_exact n wf d in_network free order).0 t in
    (rank_of_d accepted, λ u p. omega (arith, rank-in order u (accepted.all u p), order_fits n wf d in_network free accepted))
