-- The routers settled so far, of every sound topology that has these arcs.
-- Assumes nothing.
use Prim.Native.Nat.{ℕ, ◌+◌, ◌*◌, ◌≤◌, ◌<◌}
use mathlib.Core.List.{List, map}
use mathlib.Core.Path.{◌≡◌, refl, sym, subst}
use lib.Dec.{T}
use lib.ListN.{get_or, set, replicate}
use Rattle.network.specs.Lists.{below}
use Rattle.network.specs.Network.{arcs_of}
use Rattle.topology_types.specs.declared.Topology.{Topology}
use Rattle.topology_types.specs.Topology.{network_of}
use Rattle.topology_sound.specs.Sound.{sound}
use Rattle.arcs.specs.declared.Arc as own
use Rattle.arcs.specs.declared.Arcs.{Arcs}
use Rattle.arcs.specs.Inner.{arcs_at, returning, Laid}
use Rattle.arcs.specs.Back.{network_back}
use Rattle.distances.specs.Inner.{Passable, LaidIn, Settled, Searched, Nearest, Relaxed}
use Rattle.distances.proofs.Slots.{passable, at_fits, arcs_are}
use Rattle.distances.proofs.Alike.{arcs_alike, sees_back, passable_alike, relaxed_alike}
use Rattle.distances.proofs.Ways.{Given, lent}
use Rattle.distances.proofs.Run.{Run, begun}
use Rattle.distances.proofs.Turn.{near, searched, turned}
use Rattle.distances.proofs.Ended.{ended}

-- arcs that are laid out are such
pub laid_out : {t : Topology} {a : Arcs} → T (sound t) → Laid t a → LaidIn t a t.routers
laid_out {a = a} s laid =
    record { is-sound = s; numbered = a; alike = record { counts = refl; slots = refl }; holds = laid.back; routers = refl }

module _ {t : Topology} {a : Arcs} {n : ℕ} (laid : LaidIn t a n) {d : ℕ} (place : d < n) where
  -- what is given of such a topology
  pub laid_given : Given (network_of t) (network_back t) n d
  laid_given =
      let own-place : d < t.routers = rw laid.routers place in
      subst (λ (k : ℕ). Given (network_of t) (network_back t) k d) laid.routers (lent t laid.numbered d (laid.is-sound, laid.holds, own-place))

  module _ {u : ℕ} (h : u < n) where
    pub laid_fits : (u < 64) × (get_or a.count u 0 ≤ 16)
    laid_fits = let (few, most) = at_fits laid_given.within u h laid.holds in (few, rw laid.alike.counts at most)

    -- its arcs at a router, and those handed out there
    abbrev theirs : List own.Arc
    theirs = arcs_at laid.numbered u

    theirs_are : map returning theirs ≡ arcs_of (network_back t) u
    theirs_are = arcs_are laid_given.within u h laid.holds theirs refl

    pub laid_passable : {arcs : List own.Arc} {ds : List ℕ} → arcs ≡ arcs_at a u → ((v : ℕ) → v < 64 → get_or ds v 0 ≤ 4194304) →
        Passable (map returning arcs) ds
    laid_passable {ds = ds} e near =
        rw e (passable_alike returning sees_back theirs (arcs_at a u) (arcs_alike laid.alike u) (rw theirs_are (passable laid_given.within u h ds near)))

    pub laid_relaxed : {arcs : List own.Arc} {here : ℕ} {old new : List ℕ} → arcs ≡ arcs_at a u → Relaxed (map returning arcs) here old new →
        Relaxed (arcs_of (network_back t) u) here old new
    laid_relaxed e r = rw theirs_are at (relaxed_alike (arcs_at a u) theirs (sym (arcs_alike laid.alike u)) (rw e at r))

-- of every such topology k routers are settled
abbrev pub Runs : Arcs → ℕ → ℕ → ℕ → List ℕ → List ℕ → Type 0
Runs a n d k ds marks = (t : Topology) → LaidIn t a n → Run (network_of t) (network_back t) d n k ds marks

module _ {a : Arcs} {n d : ℕ} (place : d < n) where
  pub runs_begun : {ds marks : List ℕ} → ds ≡ set (replicate 64 (n * 65536)) d 0 → marks ≡ below 64 → Runs a n d 0 ds marks
  runs_begun {ds} {marks} e f t laid = begun (network_of t) (network_back t) n d (laid_given laid place) ds marks e f

  module _ {k : ℕ} {ds marks : List ℕ} (runs : Runs a n d k ds marks) where
    pub runs_near : (t : Topology) × LaidIn t a n → (v : ℕ) → v < 64 → get_or ds v 0 ≤ 4194304
    runs_near (t, laid) = near (network_of t) (network_back t) n d (laid_given laid place) k ds marks (runs t laid)

    pub runs_searched : (t : Topology) × LaidIn t a n → k < n → Searched ds marks n
    runs_searched (t, laid) = searched (network_of t) (network_back t) n d (laid_given laid place) k ds marks (runs t laid)

    pub runs_turned : {u : ℕ} → Nearest ds marks n u → {arcs : List own.Arc} → arcs ≡ arcs_at a u → {new : List ℕ} →
        Relaxed (map returning arcs) (get_or ds u 0) ds new → Runs a n d (k + 1) new (set marks u 536870912)
    runs_turned {u} nearest e {new} after t laid =
        turned (network_of t) (network_back t) n d (laid_given laid place) k ds marks (runs t laid) u nearest new
        (laid_relaxed laid place nearest.place e after)

    pub runs_ended : k ≡ n → (t : Topology) → LaidIn t a n → Settled (network_of t) d ds
    runs_ended all t laid = ended (network_of t) (network_back t) n d (laid_given laid place) k ds marks (runs t laid) all
