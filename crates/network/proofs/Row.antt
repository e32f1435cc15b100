-- Rows: the arcs of a router have different places and links, so of any two one sorts first, and sorting puts them in the only order that rises.
-- Assumes nothing.
use Prim.Native.Nat.{ℕ, ◌<◌}
use mathlib.Core.List.Memᴰ
use mathlib.Core.List.{List, Memᴰ}
use mathlib.Core.Logic.{◌↔◌, ◌≢◌, ◌⊎◌, inl, inr, ⊎_elim}
use mathlib.Core.Path.{◌≡◌, sym, ◌∙◌, ap, subst}
use native.Mathlib.Decide.{ℕ_discrete}
use native.Mathlib.Omega.{arith}
use lib.ListN.{drop, take-append-drop, length-take}
use lib.Dec.{T, ltb→lt, lt→ltb}
use Rattle.network.specs.Lists.{Pairwise, nothing, then}
use Rattle.network.specs.Network.{Arc, Network, size, arcs_of, WellFormed}
use Rattle.network.specs.Distance.{through, distances, distance}
use Rattle.network.specs.Row.{rank, sorts_before, ranked_before, full_row, row}
use Rattle.network.specs.Theorems.Order.{via}
use Rattle.network.specs.Theorems.Row.{Before, FullRow, FullRowExact, Row, RowSound}
use Rattle.network.proofs.Tests.{wins_fact, fact_wins, ties_trans, wins_either}
use Rattle.network.proofs.Lists.{mem_keep, keep_mem, mem_take, pairwise_keep, pairwise_take}
use Rattle.network.proofs.Sort.{pairwise_map, one_rising, mem_sort, Decides, sort_rising}
use Rattle.network.proofs.Selection.{ids_apart}

-- of the elements of a list on which f differs, f names one
pub same_by : {A B : Type 0} (f : A → B) {xs : List A} → Pairwise (λ a b. f a ≢ f b) xs → {a b : A} → Memᴰ a xs → Memᴰ b xs → f a ≡ f b → a ≡ b
same_by f nothing m k e = absurd (Memᴰ.not-nil m)
same_by {A} f (then {x} {xs} h p) {a} {b} m k e = step (Memᴰ.cases_cons m) (Memᴰ.cases_cons k) (same_by f p)
  where
    step : (a ≡ x) ⊎ Memᴰ a xs → (b ≡ x) ⊎ Memᴰ b xs → (Memᴰ a xs → Memᴰ b xs → f a ≡ f b → a ≡ b) → a ≡ b
    step (inl i) (inl j) rest = i ∙ sym j
    step (inl i) (inr l) rest = absurd (h b l (ap f (sym i) ∙ e))
    step (inr l) (inl j) rest = absurd (h a l (ap f (sym j) ∙ sym e))
    step (inr l) (inr o) rest = rest l o e

module _ (n : Network) (wf : WellFormed n) (d : ℕ) (in_network : d < size n) (order : List ℕ) (u : ℕ) where
  ds : List ℕ
  ds = distances n d

  before_trans : (a b c : Arc) → Before n d a b → Before n d b c → Before n d a c
  before_trans a b c = ties_trans (via n d a) (via n d b) (via n d c) (λ h k. omega arith)

  never_before_itself : (a : Arc) → Before n d a a → ⊥
  never_before_itself a h = ⊎_elim (λ l. omega arith) (λ l. omega arith) h

  holds : (a : Arc) → Memᴰ a (full_row n ds order u) ↔ (Memᴰ a (arcs_of n u) × (rank order a.to < rank order u))
  unfolding full_row ranked_before
  holds a =
      let (into, back) = mem_sort _ (ranked_before n order u) a in
      (λ m. let (k, t) = mem_keep _ (arcs_of n u) (into m) in (k, ltb→lt _ _ t), λ (k, h). back (keep_mem _ (arcs_of n u) k (lt→ltb _ _ h)))

  decides : Decides (sorts_before n ds) (ranked_before n order u)
  unfolding ranked_before sorts_before
  decides a b m k = step (ℕ_discrete a.to b.to)
    where
      arc : {c : Arc} → Memᴰ c (ranked_before n order u) → Memᴰ c (arcs_of n u)
      arc l = (mem_keep _ (arcs_of n u) l).0

      step : Dec (a.to ≡ b.to) → (a ≡ b) ⊎ (T (sorts_before n ds a b) ⊎ T (sorts_before n ds b a))
      step (yes e) = inl (same_by (λ c. c.to) (wf.places_differ u) (arc m) (arc k) e)
      step (no apart) =
          inr (wins_either _ _ _ _
          (omega (arith, ids_apart wf a.to b.to (wf.sound u a (arc m)).place (wf.sound u b (arc k)).place apart)))

  rising : Pairwise (Before n d) (full_row n ds order u)
  unfolding ds full_row ranked_before sorts_before through distance
  rising =
      pairwise_map (λ a b m k t. wins_fact _ _ _ _ t)
      (sort_rising (sorts_before n ds)
      (λ a b c s t. fact_wins (before_trans a b c (wins_fact _ _ _ _ s) (wins_fact _ _ _ _ t)))
      (pairwise_map (λ a b m k apart e. apart (ap (λ c. c.to) e)) (pairwise_keep _ (wf.places_differ u))) decides)

  -- what differs between the arcs of a router differs between the entries of its row
  differ : {B : Type 0} (f : Arc → B) → Pairwise (λ a b. f a ≢ f b) (arcs_of n u) → Pairwise (λ a b. f a ≢ f b) (full_row n ds order u)
  differ f p =
      pairwise_map (λ a b m k h e. never_before_itself a (subst (Before n d a) (sym (same_by f p ((holds a).0 m).0 ((holds b).0 k).0 e)) h)) rising

  full-row : FullRow n d order u
  unfolding ds
  full-row =
      record {
        holds = holds;
        once = differ (λ a. a.to) (wf.places_differ u);
        rising = rising;
        only = λ other same p. one_rising before_trans never_before_itself p rising (λ a. (same a).0) (λ a. (same a).1);
      }

  row_sound : (limit : ℕ) → Row n d limit order u
  unfolding row ds
  row_sound limit =
      record {
        how_many = length-take limit (full_row n ds order u);
        cut = (drop limit (full_row n ds order u), sym (take-append-drop limit (full_row n ds order u)));
        lower = λ a m. ((holds a).0 (mem_take limit (full_row n ds order u) m)).1;
        links_differ = pairwise_take limit (differ (λ a. a.link) (wf.links_differ u));
      }

pub full_row_exact : FullRowExact
full_row_exact = full-row

pub rows_sound : RowSound
rows_sound n wf d in_network limit order u = row_sound n wf d in_network order u limit
