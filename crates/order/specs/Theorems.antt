-- What is proved of building and checking orders, in both modes: by what `network` says of orders where they succeed, and by each refusal's number.
-- Assumes nothing.
use Rattle.std.specs.Prelude.{ℕ, ◌-◌, ◌≤◌, ◌<◌, ◌↔◌, ◌≢◌, ◌≡◌, T, length, get_or, take, drop, replicate}
use mathlib.Core.List.{List, ◌++◌, Memᴰ}
use Rattle.network.specs.Lists.{Distinct}
use Rattle.network.specs.Network.{Network, size, WellFormed}
use Rattle.network.specs.Distance.{PathTo}
use Rattle.network.specs.Order as network
use Rattle.network.specs.Theorems.Order.{Candidate, Accepted, ByRule}
use Rattle.topology_types.specs.declared.Topology.{Topology}
use Rattle.topology_types.specs.Outcome.{answer, turned_away}
use Rattle.topology_types.specs.Topology.{network_of}
use Rattle.topology_sound.specs.Sound.{sound}
use Rattle.order_standings.specs.declared.Mode.{Mode}
use Rattle.order_standings.specs.declared.Mode.TheVariants as mode
use Rattle.order.specs.Calls.{reached_count_lem, building, checking}

-- a claim of both modes, each as the code has it and as `network` has it
pub record InBoth (claim : Mode → network.Mode → Type 0) : Type 0 where
  pub in_shortest_path : claim mode.ShortestPath network.shortest-path
  pub in_free : claim mode.Free network.free

-- a claim of every sound topology, every destination in it and both modes
abbrev pub OfOrders : (Topology → ℕ → Mode → network.Mode → Type 0) → Type 0
OfOrders claim = (t : Topology) → T (sound t) → (d : ℕ) → d < t.routers → InBoth (claim t d)

-- 02, #107: an order as bytes, N of them: the reached routers, then 255 up to N
abbrev pub up_to_n : Topology → List ℕ → List ℕ
up_to_n t order = order ++ replicate (t.routers - length order) 255

-- 02, #107: there are as many reached ranks as routers that have a path to d: as many as any list has that holds each of them once and nothing else; and
-- there is such a list. An order that is accepted is one, so it has no other length; where every router has a path there are N.
pub record ReachedRanks (n : Network) (d : ℕ) : Type 0 where
  pub counts : (us : List ℕ) → Distinct us → ((u : ℕ) → Memᴰ u us ↔ PathTo n d u) → reached_count_lem n d ≡ length us
  pub some_list : (us : List ℕ) × Distinct us × ((u : ℕ) → Memᴰ u us ↔ PathTo n d u)
  pub whole : ((u : ℕ) → u < size n → PathTo n d u) → reached_count_lem n d ≡ size n

abbrev pub ReachedRight : Type 0
ReachedRight = (n : Network) → WellFormed n → (d : ℕ) → d < size n → ReachedRanks n d

-- 01, Order, and 02, #107: `checking` answers 0 if and only if the bytes are an order that is accepted, as `network` has it, and then 255 up to N.
pub record OrderHeld (t : Topology) (d : ℕ) (meant : network.Mode) (bytes order : List ℕ) : Type 0 where
  pub accepted : Accepted (network_of t) d meant order
  pub bytes_are : bytes ≡ up_to_n t order

abbrev pub ChecksExact : Type 0
ChecksExact = OfOrders (λ t d m meant. (bytes : List ℕ) → (checking t d m bytes ≡ answer 0 0) ↔ ((order : List ℕ) × OrderHeld t d meant bytes order))

-- 01, Order, and 02, #107: building into a buffer of N bytes or more succeeds at N. Its first N bytes are then the order by 01's rule, which holds the
-- reached routers, and then 255; the rest stays, and checking those N bytes answers 0, in their mode and in free mode.
pub record BuiltWell (t : Topology) (d : ℕ) (m : Mode) (meant : network.Mode) (buffer : List ℕ) : Type 0 where
  pub success : (building t d m buffer).answer ≡ answer 0 t.routers
  pub order : List ℕ
  pub by_rule : ByRule (network_of t) d meant order
  pub all_reached : (u : ℕ) → Memᴰ u order ↔ PathTo (network_of t) d u
  pub bytes : take t.routers (building t d m buffer).buffer ≡ up_to_n t order
  pub rest : drop t.routers (building t d m buffer).buffer ≡ drop t.routers buffer
  pub long : length (building t d m buffer).buffer ≡ length buffer
  pub in_mode : checking t d m (take t.routers (building t d m buffer).buffer) ≡ answer 0 0
  pub in_free : checking t d mode.Free (take t.routers (building t d m buffer).buffer) ≡ answer 0 0

abbrev pub BuildsByRule : Type 0
BuildsByRule = OfOrders (λ t d m meant. (buffer : List ℕ) → t.routers ≤ length buffer → BuiltWell t d m meant buffer)

-- 01, Refusals, 14, 15 and 24: what building refuses, where it points, and that it leaves the buffer as it was; all else is `BuildsByRule`.
pub record BuildRefused (t : Topology) (d : ℕ) (m : Mode) (buffer : List ℕ) : Type 0 where
  pub not_sound : (T (sound t) → ⊥) → building t d m buffer ≡ turned_away 14 0 buffer
  pub no_place : T (sound t) → t.routers ≤ d → building t d m buffer ≡ turned_away 15 d buffer
  pub no_room : T (sound t) → d < t.routers → length buffer < t.routers → building t d m buffer ≡ turned_away 24 t.routers buffer

abbrev pub BuildRefuses : Type 0
BuildRefuses = (t : Topology) (d : ℕ) (m : Mode) (buffer : List ℕ) → BuildRefused t d m buffer

-- the entry at rank r: among the reached ranks it is below N and is none of the r before it, after them it is 255
pub record RightAt (t : Topology) (d : ℕ) (order : List ℕ) (r : ℕ) : Type 0 where
  pub place : r < reached_count_lem (network_of t) d → get_or order r 0 < t.routers
  pub fresh : r < reached_count_lem (network_of t) d → Memᴰ (get_or order r 0) (take r order) → ⊥
  pub after : reached_count_lem (network_of t) d ≤ r → get_or order r 0 ≡ 255

-- 02, #107, 18, at r: among the reached ranks the entry at rank r is not below N or is one of the r before it, after them it is anything but 255; and every
-- earlier entry is right
pub data Wrong (t : Topology) (d : ℕ) (order : List ℕ) (r : ℕ) : Type 0 where
  no_place : r < reached_count_lem (network_of t) d → t.routers ≤ get_or order r 0 → Wrong t d order r
  repeated : r < reached_count_lem (network_of t) d → Memᴰ (get_or order r 0) (take r order) → Wrong t d order r
  ranked : reached_count_lem (network_of t) d ≤ r → get_or order r 0 ≢ 255 → Wrong t d order r

pub record WrongRankAt (t : Topology) (d : ℕ) (order : List ℕ) (r : ℕ) : Type 0 where
  pub within : r < length order
  pub wrong : Wrong t d order r
  pub earlier : (k : ℕ) → k < r → RightAt t d order k

-- 02, #107, 20, at r: the router at rank r, one of the reached ranks, is no candidate after the r before it, and every earlier one but the first is a
-- candidate when placed. A router that has no path is a candidate in neither mode.
pub record UnreadyAt (t : Topology) (d : ℕ) (meant : network.Mode) (order : List ℕ) (r : ℕ) : Type 0 where
  pub not_first : 1 ≤ r
  pub within : r < reached_count_lem (network_of t) d
  pub unready : Candidate (network_of t) d meant (take r order) (get_or order r 0) → ⊥
  pub earlier : (k : ℕ) → 1 ≤ k → k < r → Candidate (network_of t) d meant (take k order) (get_or order k 0)

-- the tests pass, in their order: 14 and 15; then 17; then 18; then 19
pub record Called (t : Topology) (d : ℕ) : Type 0 where
  pub is-sound : T (sound t)
  pub place : d < t.routers

pub record Long (t : Topology) (d : ℕ) (order : List ℕ) : Type 0 where
  pub called : Called t d
  pub long : length order ≡ t.routers

pub record EntriesRight (t : Topology) (d : ℕ) (order : List ℕ) : Type 0 where
  pub sized : Long t d order
  pub right : (r : ℕ) → r < length order → RightAt t d order r

pub record Begun (t : Topology) (d : ℕ) (order : List ℕ) : Type 0 where
  pub entries : EntriesRight t d order
  pub first : get_or order 0 0 ≡ d

-- 01, Refusals: what each answer of `checking` says, and when it is given; the tests before it pass.
pub record OrderChecked (t : Topology) (d : ℕ) (m : Mode) (meant : network.Mode) (order : List ℕ) (at : ℕ) : Type 0 where
  pub says_14 : (checking t d m order ≡ answer 14 at) ↔ ((at ≡ 0) × (T (sound t) → ⊥))
  pub says_15 : (checking t d m order ≡ answer 15 at) ↔ ((at ≡ d) × T (sound t) × (t.routers ≤ d))
  pub says_17 : (checking t d m order ≡ answer 17 at) ↔ ((at ≡ length order) × Called t d × (length order ≢ t.routers))
  pub says_18 : (checking t d m order ≡ answer 18 at) ↔ (Long t d order × WrongRankAt t d order at)
  pub says_19 : (checking t d m order ≡ answer 19 at) ↔ ((at ≡ 0) × EntriesRight t d order × (get_or order 0 0 ≢ d))
  pub says_20 : (checking t d m order ≡ answer 20 at) ↔ (Begun t d order × UnreadyAt t d meant order at)
  pub says_0 : (checking t d m order ≡ answer 0 at) ↔ ((at ≡ 0) × Called t d × ((held : List ℕ) × OrderHeld t d meant order held))

abbrev pub ChecksEach : Type 0
ChecksEach = (t : Topology) (d : ℕ) (order : List ℕ) (at : ℕ) → InBoth (λ m meant. OrderChecked t d m meant order at)
