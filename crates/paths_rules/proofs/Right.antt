-- The paths over what an accepted table lists are network's for rows along which ranks fall, its entries leading to the places of its rows; so what is proved
-- of those holds here. The schedule of a path is network's valid rows laid end to end.
-- Assumes nothing.
use Prim.Native.Nat.{ℕ, pred, ◌*◌, ◌<◌}
use mathlib.Core.List.Memᴰ
use mathlib.Core.List.{List, [], ◌∷◌, ◌++◌, Memᴰ, append_assoc}
use mathlib.Core.Logic.{⊎_elim}
use mathlib.Core.Path.{◌≡◌, refl, sym, ap, ◌∙◌, subst}
use native.Mathlib.Omega.{arith}
use lib.Dec.{T}
use lib.ListN.{length, length-append}
use Rattle.network.specs.Network.{Arc, Network}
use Rattle.network.specs.Forwarding.{Packet, delivered_at}
use Rattle.network.specs.Routing.{routers_by, greatest_hop_by, every_path_by}
use Rattle.network.specs.Theorems.Routing.{SomeEntry}
use Rattle.network.specs.Theorems.Paths.{Earlier, RowPath, RowPaths, visited}
use Rattle.network.proofs.Sort.{pairwise_map}
use Rattle.network.proofs.RouterPaths.{paths_by_rows_exact}
use Rattle.topology_types.specs.declared.Topology.{Topology}
use Rattle.topology_types.specs.Topology.{network_of}
use Rattle.topology_types.specs.Outcome.{answer}
use Rattle.topology_sound.specs.Sound.{sound}
use Rattle.table.specs.Listed.{falling_rank, entries_in, listed}
use Rattle.table.specs.Calls.{table_checking}
use Rattle.forwarding_rules.specs.Schedule.{rows_in}
use Rattle.forwarding_rules.specs.Calls.{done, by, walking}
use Rattle.forwarding_rules.specs.Theorems.{destination_byte, ListsPlace, Reached}
use Rattle.forwarding_rules.proofs.Listed.{Over, reached_or, figure_reached}
use Rattle.forwarding_rules.proofs.Laid.{schedule_of}
use Rattle.forwarding_rules.proofs.Passed.{walks_when, walks_only}
use Rattle.paths_rules.specs.Calls.{paths_of}
use Rattle.paths_rules.specs.Theorems.{PathIs, Sooner, PathsRight, PathsExact}
use Rattle.paths_rules.proofs.Listed.{o}
use Rattle.paths_rules.proofs.Entries as entries

module _ (t : Topology) (good : T (sound t)) (table : List ℕ) (right : table_checking t table ≡ answer 0 0) where
  abbrev n : Network
  n = network_of t

  abbrev x : Over t table
  x = o t good table right

  abbrev d : ℕ
  d = destination_byte table

  abbrev rows : ℕ → List Arc
  rows = entries_in n table

  -- where two paths part by the entries they part by the places listed
  sooner : (p q : List ℕ) → Earlier (routers_by d rows) p q → Sooner table p q
  sooner p q e =
      let further : rows e.station ≡ (e.before ++ (e.sooner ∷ e.between)) ++ (e.later ∷ e.behind) =
      e.listed ∙ sym (append_assoc e.before (e.sooner ∷ e.between) (e.later ∷ e.behind)) in
      record {
        together = e.together;
        station = e.station;
        j = length e.before;
        k = length (e.before ++ (e.sooner ∷ e.between));
        earlier = omega (arith, length-append e.before (e.sooner ∷ e.between));
        v = e.sooner.to;
        w = e.later.to;
        p_entry = entries.lists t good table right e.station e.before e.sooner _ e.listed;
        q_entry = entries.lists t good table right e.station (e.before ++ (e.sooner ∷ e.between)) e.later e.behind further;
        p_rest = e.p_rest;
        q_rest = e.q_rest;
        p_goes = e.p_goes;
        q_goes = e.q_goes;
      }

  module _ (u : ℕ) where
    -- the list is network's
    same : every_path_by n d rows u ≡ paths_of t table u
    unfolding paths_of listed
    same = rw x.routers_are refl

    exact : RowPaths n d rows (falling_rank t.routers table) (SomeEntry n d rows) u (paths_of t table u) (greatest_hop_by n d rows u)
    exact =
        subst (λ (ps : List (List ℕ)). RowPaths n d rows (falling_rank t.routers table) (SomeEntry n d rows) u ps (greatest_hop_by n d rows u)) same
        (paths_by_rows_exact n x.well_formed d x.inside rows _ x.falling u)

    path_is : {p : List ℕ} → RowPath d rows u p → PathIs table u p
    path_is r =
        record {
          starts = r.starts;
          steps = λ before v w after e.
              let (a, m, to) = r.steps before v w after e in
              subst (λ (y : ℕ). (j : ℕ) × ListsPlace table v j y) to (entries.listed t good table right v a m);
          ends = r.ends;
        }

    is_path : {p : List ℕ} → PathIs table u p → RowPath d rows u p
    is_path r =
        record {
          starts = r.starts;
          steps = λ before v w after e.
              let (j, l) = r.steps before v w after e in
              let f = entries.turn t good table right v j w l in
              (f.arc, f.among, f.to);
          ends = r.ends;
        }

    -- a path down the rows goes along links
    pub no_paths : (Reached t table u → ⊥) → paths_of t table u ≡ []
    no_paths = exact.only_reached

    -- where a path is listed there is one along the links
    listed_reached : {p : List ℕ} → Memᴰ p (paths_of t table u) → Reached t table u
    listed_reached m = ⊎_elim (λ path. path) (λ out. absurd (Memᴰ.not-nil (rw (no_paths out) at m))) (reached_or x u)

    module _ (place : u < t.routers) where
      -- the schedule of a path
      scheduled : (p : List ℕ) → Memᴰ p (paths_of t table u) → (schedule : List ℕ) × (length schedule ≡ pred t.routers * t.links)
          × ((q : Packet ℕ) × (walking t table u schedule ≡ done (delivered_at q))) × (visited (by t table) (rows_in t.routers t.links schedule) u ≡ p)
      unfolding listed
      scheduled p m =
          let (xs, many, valid, (q, w), v) = exact.walks.each_path p m (pred t.routers) (omega (arith, x.rank_below u place)) in
          let (schedule, long, sound, are) = schedule_of t x.links_are xs many valid in (
            schedule,
            long,
            (q, walks_when t table right u schedule good place sound ∙ rw are (ap done w)),
            rw are v,
          )

      paths_right : PathsRight t table u
      unfolding listed
      paths_right =
          record {
            holds = λ p. (λ m. path_is ((exact.holds p).0 m), λ r. (exact.holds p).1 (is_path r));
            each_once = exact.each_once;
            in_order = pairwise_map (λ p q k l. sooner p q) exact.in_order;
            no_repeat = exact.no_repeat;
            in_network = λ p m. rw (← x.routers_are) (exact.in_network (rw x.routers_are place) p m);
            never_passed = λ p m. rw (figure_reached good x u place (listed_reached m)) (exact.never_passed p m);
            longest_one = λ path. rw (figure_reached good x u place path) (exact.longest_one x.stands.falls.some_entry path);
            each_walk = λ schedule q w.
                let (inside, s, is) = walks_only t table right u schedule (delivered_at q) w in
                exact.walks.each_walk (rows_in t.routers t.links schedule) q (sym is);
            each_path = scheduled;
          }

pub paths_exact : PathsExact
paths_exact t good table right u place = paths_right t good table right u place
