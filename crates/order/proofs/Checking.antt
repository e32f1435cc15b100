-- Checking, turn by turn: the standings are right for the routers before `rank`, and each of them but the first was a candidate when placed.
-- Assumes nothing.
use Prim.Native.Nat.{ℕ, suc, pred, ◌+◌, ◌≤◌, ◌<◌}
use mathlib.Core.Bool.{Bool, true, false, not}
use mathlib.Core.List.Memᴰ
use mathlib.Core.List.{List, [], ◌∷◌, ◌++◌, Memᴰ}
use mathlib.Core.Logic.{⊎_elim}
use mathlib.Core.Path.{◌≡◌, sym, ◌∙◌, subst}
use native.Mathlib.Decide.{ℕ_discrete}
use native.Mathlib.Numerals.{add-one}
use native.Mathlib.Omega.{arith}
use lib.Dec.{T, leb}
use lib.ListN.{length, get_or, set, take, replicate}
use lib.Seq.{take-suc, length-take-le, get_or-take}
use Rattle.network.specs.Distance.{PathTo, arrived, distances}
use Rattle.network.specs.Order.{candidate}
use Rattle.network.proofs.Candidate.{candidate_fact}
use Rattle.topology_types.specs.declared.Topology.{Topology}
use Rattle.topology_types.specs.Topology.{network_of}
use Rattle.std.specs.Prelude.{Some}
use Rattle.network.specs.Network.{arcs_of}
use Rattle.arcs.specs.declared.Arcs.{Arcs}
use Rattle.arcs.specs.Back.{network_back}
use Rattle.order_standings.specs.declared.Mode.{Mode}
use Rattle.order.specs.Calls.{mode_of, first_of, unready_ranks}
use Rattle.order.specs.Inner.{LaidOut, FirstPlaced}
use Rattle.order_standings.specs.Inner.{waits_for, FirstStandings, Room, StandingsAfter}
use Rattle.order.proofs.Ranges.{get_d_mem, keep_none, keep_first}
use Rattle.order.proofs.Entries.{entry_right}
use Rattle.order.proofs.First.{first_is}
use Rattle.order_standings.proofs.Counting.{waiting}
use Rattle.order_standings.proofs.Kept.{Kept}
use Rattle.order.proofs.Turn.{facts, zeros_small, is-candidate, candidate_waits, room, placed_too, first_placed}

-- before a turn
pub record Checking (t : Topology) (a : Arcs) (d : ℕ) (m : Mode) (ds order keys : List ℕ) (rank : ℕ) : Type 0 where
  pub given : LaidOut t a d m ds
  pub proposed : FirstPlaced t d order
  pub least : 1 ≤ rank
  pub most : rank ≤ length order
  pub paths : (u : ℕ) → Memᴰ u (take rank order) → PathTo (network_of t) d u
  pub right : Kept (network_of t) (distances (network_of t) d) m (replicate 64 0) (take rank order) keys
  pub so_far : (r : ℕ) → 1 ≤ r → r < rank → candidate (network_of t) (distances (network_of t) d) (mode_of m) (take r order) (get_or order r 0) ≡ true

module _ {t : Topology} {a : Arcs} {d : ℕ} {m : Mode} {ds order keys : List ℕ} {rank : ℕ} (w : Checking t a d m ds order keys rank) where
  abbrev unready? : ℕ → Bool
  unready? r = not (candidate (network_of t) (distances (network_of t) d) (mode_of m) (take r order) (get_or order r 0))

  -- all were candidates
  pub none_unready : length order ≤ rank → unready_ranks (network_of t) d (mode_of m) order ≡ []
  unfolding unready_ranks
  none_unready over =
      keep_none unready? 1 (pred (length order)) (λ r h k. rw (w.so_far r h (omega (arith, w.proposed.some_rank))))

  module _ (more : rank < length order) where
    here : (get_or order rank 0 < t.routers) × (Memᴰ (get_or order rank 0) (take rank order) → ⊥)
    here = entry_right t.routers order w.proposed.once rank more

    pub place : get_or order rank 0 < t.routers
    place = here.0

    first_there : Memᴰ d (take rank order)
    first_there =
        subst (λ (u : ℕ). Memᴰ u (take rank order)) (get_or-take rank order 0 0 (omega (arith, w.least)) ∙ w.proposed.first)
        (get_d_mem (take rank order) 0 0 (omega (arith, w.least, length-take-le rank order (omega arith))))

    candidate_is : leb 17472 (get_or keys (get_or order rank 0) 0)
        ≡ candidate (network_of t) (distances (network_of t) d) (mode_of m) (take rank order) (get_or order rank 0)
    candidate_is = is-candidate w.given (zeros_small w.given) w.right first_there w.paths place

    -- this one is not a candidate
    pub unready : leb 17472 (get_or keys (get_or order rank 0) 0) ≡ false → first_of (unready_ranks (network_of t) d (mode_of m) order) ≡ Some rank
    unfolding unready_ranks
    unready e =
        first_is _ rank
        (keep_first unready? (suc rank) 1 _ rank
        (record {
          least = w.least;
          within = omega arith;
          passes = rw (← candidate_is, e);
          earlier = λ r h k. rw (w.so_far r h k);
        }))

    -- this one is a candidate
    module _ (e : leb 17472 (get_or keys (get_or order rank 0) 0) ≡ true) where
      waits : waits_for m (waiting (network_of t) (distances (network_of t) d) (take rank order) (get_or order rank 0)) ≡ 0
      waits = candidate_waits w.given (zeros_small w.given) w.right _ (subst T (sym (sym candidate_is ∙ e)) tt)

      pub has_room : Room (set keys (get_or order rank 0) 0) (arcs_of (network_back t) (get_or order rank 0)) ds m (get_or order rank 0)
      has_room = room w.given (zeros_small w.given) w.right place here.1 waits

      -- a candidate has a path
      path : PathTo (network_of t) d (get_or order rank 0)
      path =
          let known = facts w.given in
          (candidate_fact (network_of t) known.well_formed d (omega (arith, known.routers, w.given.place)) (mode_of m) (take rank order) _
          (subst T (sym (sym candidate_is ∙ e)) tt)).path

      next_paths : (u : ℕ) → Memᴰ u (take rank order ++ (get_or order rank 0 ∷ [])) → PathTo (network_of t) d u
      next_paths u k =
          ⊎_elim (w.paths u) (λ last. subst (PathTo (network_of t) d) (sym (Memᴰ.eq_of_singleton last)) path) (Memᴰ.append_cases (take rank order) k)

      pub again : {r : List ℕ} → StandingsAfter (set keys (get_or order rank 0) 0) (arcs_of (network_back t) (get_or order rank 0)) ds m (get_or order rank 0) r →
          Checking t a d m ds order r (rank + 1)
      again step =
          record {
            given = w.given;
            proposed = w.proposed;
            least = omega arith;
            most = omega arith;
            paths = rw (add-one, take-suc order rank 0 more) next_paths;
            right = rw (add-one, take-suc order rank 0 more) (placed_too w.given (zeros_small w.given) w.right place here.1 waits step);
            so_far = λ r h k. so_far_too r h (ℕ_discrete r rank) k;
          }
        where
          so_far_too : (r : ℕ) → 1 ≤ r → Dec (r ≡ rank) → r < rank + 1 →
              candidate (network_of t) (distances (network_of t) d) (mode_of m) (take r order) (get_or order r 0) ≡ true
          so_far_too r h (yes e') k = rw e' (sym candidate_is ∙ e)
          so_far_too r h (no apart) k = w.so_far r h (omega arith)

pub first_turn : {t : Topology} {a : Arcs} {d : ℕ} {m : Mode} {ds order keys r : List ℕ} → LaidOut t a d m ds → FirstPlaced t d order →
    FirstStandings a ds (replicate 64 0) m t.routers keys → StandingsAfter (set keys d 0) (arcs_of (network_back t) d) ds m d r →
    Checking t a d m ds order r 1
first_turn {order} g p start step =
    let inside : 0 < length order = p.some_rank in
    record {
      given = g;
      proposed = p;
      least = omega arith;
      most = p.some_rank;
      paths = rw (take-suc order 0 0, p.first) (λ u k. arrived (Memᴰ.eq_of_singleton k));
      right = rw (take-suc order 0 0, p.first) (first_placed g (zeros_small g) start step);
      so_far = λ r h k. absurd (omega arith);
    }
