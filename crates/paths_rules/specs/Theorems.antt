-- What is proved of the paths over what a table lists, for every sound topology, every table that checking answers 0 for and every start; then of what the
-- call answers and writes, over all values.
-- Assumes nothing.
use Rattle.std.specs.Prelude.{ℕ, suc, pred, ◌+◌, ◌*◌, ◌≤◌, ◌<◌, ◌↔◌, ◌≢◌, ◌≡◌, T, length, get_or, drop}
use mathlib.Core.List.{List, [], ◌∷◌, ◌++◌, Memᴰ, map}
use Rattle.network.specs.Lists.{Pairwise, Distinct}
use Rattle.network.specs.Forwarding.{Packet, delivered_at}
use Rattle.network.specs.Theorems.Paths.{visited}
use Rattle.topology_types.specs.declared.Topology.{Topology}
use Rattle.topology_types.specs.Outcome.{answer}
use Rattle.topology_sound.specs.Sound.{sound}
use Rattle.table.specs.Listed.{places_in}
use Rattle.table.specs.Calls.{table_checking}
use Rattle.forwarding_rules.specs.Schedule.{rows_in}
use Rattle.forwarding_rules.specs.Calls.{done, by, figures, walking}
use Rattle.forwarding_rules.specs.Theorems.{OfAccepted, destination_byte, ListsPlace, Reached}
use Rattle.paths_rules.specs.Calls.{paths_of, paths_past, writing_paths}

-- 02, 103, its rule: from the destination there is one path, itself; the paths from any other station are those through each entry of its row in turn,
-- and an entry's paths are those from the station it names.
pub record PathRule (t : Topology) (table : List ℕ) (u : ℕ) : Type 0 where
  pub at_destination : u ≡ destination_byte table → paths_of t table u ≡ (u ∷ []) ∷ []
  pub elsewhere : u ≢ destination_byte table → paths_of t table u ≡ map (λ p. u ∷ p) (paths_past t table u 0)
  pub entry : (i v : ℕ) → ListsPlace table u i v → paths_past t table u i ≡ paths_of t table v ++ paths_past t table u (suc i)
  pub past : (i : ℕ) → length (places_in table u) ≤ i → paths_past t table u i ≡ []

abbrev pub PathsByRule : Type 0
PathsByRule = OfAccepted (λ t table. (u : ℕ) → u < t.routers → PathRule t table u)

-- 02, 103: a path from u, by the table's bytes: it starts at u, each next place is an entry of the row of the place before it, and it ends at the
-- destination.
pub record PathIs (table : List ℕ) (u : ℕ) (p : List ℕ) : Type 0 where
  pub starts : (rest : List ℕ) × (p ≡ u ∷ rest)
  pub steps : (before : List ℕ) (v w : ℕ) (after : List ℕ) → p ≡ before ++ (v ∷ w ∷ after) → (j : ℕ) × ListsPlace table v j w
  pub ends : (before : List ℕ) × (p ≡ before ++ (destination_byte table ∷ []))

-- p and q go together as far as a station, where p goes to an earlier entry of its row than q
pub record Sooner (table p q : List ℕ) : Type 0 where
  pub together : List ℕ
  pub station : ℕ
  pub j : ℕ
  pub k : ℕ
  pub earlier : j < k
  pub v : ℕ
  pub w : ℕ
  pub p_entry : ListsPlace table station j v
  pub q_entry : ListsPlace table station k w
  pub p_rest : List ℕ
  pub q_rest : List ℕ
  pub p_goes : p ≡ together ++ (station ∷ v ∷ p_rest)
  pub q_goes : q ≡ together ++ (station ∷ w ∷ q_rest)

pub record PathsRight (t : Topology) (table : List ℕ) (u : ℕ) : Type 0 where
  -- the list holds exactly these, each once, in the order of the rows
  pub holds : (p : List ℕ) → Memᴰ p (paths_of t table u) ↔ PathIs table u p
  pub each_once : Distinct (paths_of t table u)
  pub in_order : Pairwise (Sooner table) (paths_of t table u)
  -- none has a repeated router, so each fits N places
  pub no_repeat : (p : List ℕ) → Memᴰ p (paths_of t table u) → Distinct p
  pub in_network : (p : List ℕ) → Memᴰ p (paths_of t table u) → (length p ≤ t.routers) × ((v : ℕ) → Memᴰ v p → v < t.routers)
  -- 02, 103 and 107: no path has more moves than the greatest hop count, and from a reached start one has as many; a path has one station more than it
  -- has moves
  pub never_passed : (p : List ℕ) → Memᴰ p (paths_of t table u) → length p ≤ suc (get_or (figures t table) u 0)
  pub longest_one : Reached t table u → (p : List ℕ) × Memᴰ p (paths_of t table u) × (length p ≡ suc (get_or (figures t table) u 0))
  -- every walk that is delivered goes along one of them, and along each of them goes some walk that is delivered, by a schedule of N - 1 rows
  pub each_walk : (schedule : List ℕ) (q : Packet ℕ) → walking t table u schedule ≡ done (delivered_at q) →
      Memᴰ (visited (by t table) (rows_in t.routers t.links schedule) u) (paths_of t table u)
  pub each_path : (p : List ℕ) → Memᴰ p (paths_of t table u) → (schedule : List ℕ) × (length schedule ≡ pred t.routers * t.links)
      × ((q : Packet ℕ) × (walking t table u schedule ≡ done (delivered_at q))) × (visited (by t table) (rows_in t.routers t.links schedule) u ≡ p)

abbrev pub PathsExact : Type 0
PathsExact = OfAccepted (λ t table. (u : ℕ) → u < t.routers → PathsRight t table u)

-- 01, Refusals, 14, 15 and 21: the topology is sound, the start is one of its places, and the table is accepted on it
pub record Passed (t : Topology) (table : List ℕ) (u : ℕ) : Type 0 where
  pub is-sound : T (sound t)
  pub place : u < t.routers
  pub accepted : table_checking t table ≡ answer 0 0

-- 02, 103; 01, Refusals: what each number says, and its at
pub data PathsSay (t : Topology) (table : List ℕ) (u : ℕ) (buffer : List ℕ) : ℕ → ℕ → Type 0 where
  says_14 : (T (sound t) → ⊥) → PathsSay t table u buffer 14 0
  says_15 : T (sound t) → t.routers ≤ u → PathsSay t table u buffer 15 u
  says_21 : T (sound t) → u < t.routers → (at : ℕ) → table_checking t table ≡ answer 21 at → PathsSay t table u buffer 21 at
  says_25 : Passed t table u → 512 < length (paths_of t table u) → PathsSay t table u buffer 25 u
  says_24 : Passed t table u → length (paths_of t table u) ≤ 512 → length buffer < 64 * length (paths_of t table u) →
      PathsSay t table u buffer 24 (64 * length (paths_of t table u))
  says_0 : Passed t table u → length (paths_of t table u) ≤ 512 → 64 * length (paths_of t table u) ≤ length buffer →
      PathsSay t table u buffer 0 (64 * length (paths_of t table u))

abbrev pub PathsAnswer : Type 0
PathsAnswer =
    (t : Topology) (table : List ℕ) (u : ℕ) (buffer : List ℕ) (number at : ℕ) →
    ((writing_paths t table u buffer).answer ≡ answer number at) ↔ PathsSay t table u buffer number at

-- 01, Refusals: no refusal writes
abbrev pub RefusalsKeep : Type 0
RefusalsKeep =
    (t : Topology) (table : List ℕ) (u : ℕ) (buffer : List ℕ) → (writing_paths t table u buffer).answer.number ≢ 0 →
    (writing_paths t table u buffer).buffer ≡ buffer

-- 02, 103: path i stands from byte 64 * i on, its places and then 255 up to 64 bytes; the rest of a longer buffer stays
pub record PathsGiven (t : Topology) (table : List ℕ) (u : ℕ) (buffer : List ℕ) : Type 0 where
  pub places : (i j : ℕ) → i < length (paths_of t table u) → j < length (get_or (paths_of t table u) i []) →
      get_or (writing_paths t table u buffer).buffer (64 * i + j) 0 ≡ get_or (get_or (paths_of t table u) i []) j 0
  pub padding : (i j : ℕ) → i < length (paths_of t table u) → length (get_or (paths_of t table u) i []) ≤ j → j < 64 →
      get_or (writing_paths t table u buffer).buffer (64 * i + j) 0 ≡ 255
  pub rest : drop (64 * length (paths_of t table u)) (writing_paths t table u buffer).buffer ≡ drop (64 * length (paths_of t table u)) buffer
  pub long : length (writing_paths t table u buffer).buffer ≡ length buffer

abbrev pub PathsWritten : Type 0
PathsWritten =
    (t : Topology) (table : List ℕ) (u : ℕ) (buffer : List ℕ) → (writing_paths t table u buffer).answer.number ≡ 0 → PathsGiven t table u buffer

-- 02, 107: from a start with no path to the destination there is no path to list, and the call needs no bytes: it answers 0 at 0 and leaves the whole
-- buffer, of whatever length.
pub record NoPath (t : Topology) (table : List ℕ) (u : ℕ) : Type 0 where
  pub none : paths_of t table u ≡ []
  pub writes_nothing : (buffer : List ℕ) → writing_paths t table u buffer ≡ record { answer = answer 0 0; buffer = buffer }

abbrev pub CutOffNoPath : Type 0
CutOffNoPath = OfAccepted (λ t table. (u : ℕ) → u < t.routers → (Reached t table u → ⊥) → NoPath t table u)
