-- Routers obey the laws, the entries of a row name different places, since they are arcs over different links, and every place that an entry names has a
-- path to d and so, off d, an entry.
-- Assumes nothing.
use Prim.Native.Nat.{ℕ, ◌≤◌, ◌<◌}
use mathlib.Core.List.Memᴰ
use mathlib.Core.List.{List, [], ◌∷◌, ◌++◌, Memᴰ}
use mathlib.Core.Logic.{◌≢◌, ⊎_elim}
use mathlib.Core.Path.{◌∙◌, ap}
use lib.Dec.{eqb→eq, eqb_refl}
use Rattle.network.specs.Lists.{Pairwise}
use Rattle.network.specs.Network.{Arc, Network, size, WellFormed}
use Rattle.network.specs.Distance.{PathTo, arrived, along}
use Rattle.network.specs.Forwarding.{Forwarding}
use Rattle.network.specs.Routing.{routers_by, greatest_hop_by, every_path_by}
use Rattle.network.specs.Theorems.Routing.{FallingRows, SomeEntry}
use Rattle.network.specs.Theorems.Paths.{PathDown, Met, here, down, RowPath, RowPaths, PathsByRowsExact, EveryPathExact}
use Rattle.network.proofs.Tests.{eq_test}
use Rattle.network.proofs.Lists.{empty}
use Rattle.network.proofs.Sort.{pairwise_map}
use Rattle.network.proofs.Pigeon.{at_most}
use Rattle.network.proofs.Row.{same_by}
use Rattle.network.proofs.Filled.{rows_filled}
use Rattle.network.proofs.Falling.{orders_fall}
use Rattle.network.proofs.Routing.{rows_lawful}
use Rattle.network.proofs.Paths.{Down, ended, onward, mem_down, paths_exact}
use Rattle.network.proofs.PathOrder.{paths_in_order, paths_once}
use Rattle.network.proofs.PathMoves.{paths_never_repeat, longest_paths}
use Rattle.network.proofs.PathWalks.{paths_walked}

module _ (n : Network) (wf : WellFormed n) (d : ℕ) (in_network : d < size n) (rows : ℕ → List Arc) (ranks : ℕ → ℕ)
    (fall : FallingRows n d rows ranks) where
  abbrev f : Forwarding
  f = routers_by d rows

  -- the end of a path said as a place, and as a test of it
  placed : (u : ℕ) {p : List ℕ} → PathDown f u p → RowPath d rows u p
  placed u r =
      let (before, v, e, h) = r.ends in
      record { starts = r.starts; steps = r.steps; ends = (before, e ∙ ap (λ (w : ℕ). before ++ (w ∷ [])) (eqb→eq v d h)) }

  as_down : (u : ℕ) {p : List ℕ} → RowPath d rows u p → PathDown f u p
  as_down u r = let (before, e) = r.ends in record { starts = r.starts; steps = r.steps; ends = (before, d, e, eqb_refl d) }

  differ : (u : ℕ) → Pairwise (λ (a b : Arc). a.to ≢ b.to) (rows u)
  differ u =
      pairwise_map
      (λ a b m k apart e. apart (ap (λ (c : Arc). c.link) (same_by (λ c. c.to) (wf.places_differ u) (fall.arcs u a m) (fall.arcs u b k) e)))
      (fall.links_differ u)

  met_path : {u v : ℕ} → Met f u v → PathTo n d u → PathTo n d v
  met_path here p = p
  met_path {u} (down a m k) p = met_path k (fall.onward u a m)

  -- a path down the rows goes along links
  down_path : {u : ℕ} {p : List ℕ} → Down f u p → PathTo n d u
  down_path {u} (ended h) = arrived (eqb→eq u d h)
  down_path {u} (onward a m r) = along a (fall.arcs u a m) (fall.onward u a m)

  -- its places are in the network
  down_places : {u : ℕ} {p : List ℕ} → Down f u p → u < size n → (v : ℕ) → Memᴰ v p → v < size n
  down_places (ended h) inside v m = rw (Memᴰ.eq_of_singleton m) inside
  down_places {u} (onward a k r) inside v m =
      ⊎_elim (λ e. rw e inside) (down_places r (wf.sound u a (fall.arcs u a k)).place v) (Memᴰ.cases_cons m)

  every-path : (filled : Type 0) → (filled → SomeEntry n d rows) → (u : ℕ) →
      RowPaths n d rows ranks filled u (every_path_by n d rows u) (greatest_hop_by n d rows u)
  every-path filled some_entry u =
      let law = rows_lawful n wf d in_network rows ranks fall in
      let fits = fall.ranks_most u in
      let exact = paths_exact f ranks _ law (size n) u fits in
      let repeats = paths_never_repeat f ranks _ law (size n) u fits in
      let longest = longest_paths f ranks _ law (size n) u fits in
      record {
        holds = λ p. (λ m. placed u ((exact p).0 m), λ r. (exact p).1 (as_down u r));
        each_once = paths_once f differ (size n) u;
        in_order = paths_in_order f (size n) u;
        no_repeat = λ p m. (repeats p m).once;
        in_network = λ inside p m.
            let places = down_places (mem_down f (size n) u m) inside in
            (at_most (size n) p (repeats p m).once places, places);
        never_passed = longest.never_passed;
        longest_one = λ room p. longest.reached (λ v k off. some_entry room v (met_path k p) (λ e. off (eq_test e)));
        only_reached = λ out. empty _ (λ p m. out (down_path (mem_down f (size n) u m)));
        walks = paths_walked f ranks _ law (size n) u fits;
      }

pub paths_by_rows_exact : PathsByRowsExact
paths_by_rows_exact n wf d in_network rows ranks fall = every-path n wf d in_network rows ranks fall (SomeEntry n d rows) (λ some_entry. some_entry)

pub every_path_exact : EveryPathExact
every_path_exact n wf d in_network limit order t =
    every-path n wf d in_network _ _ (orders_fall n wf d in_network limit order t) (1 ≤ limit) (rows_filled n wf d in_network limit order t).some_entry
