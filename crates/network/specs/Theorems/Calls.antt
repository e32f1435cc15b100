-- What is proved of lists of calls, over any rows, any rule of choice that obeys the laws and any tests by which calls are refused.
-- Assumes nothing.
use Rattle.std.specs.Prelude.{ℕ, ◌+◌, ◌≤◌, ◌<◌, ◌⊎◌, ◌≡◌, T}
use mathlib.Core.List.{List, [], ◌∷◌, ◌++◌, Memᴰ}
use Rattle.network.specs.Forwarding.{Forwarding, Packet, delivered, moved, dropped, hop, start, longest}
use Rattle.network.specs.Calls.{Call, setting, hopping, Tests, after_call, after_calls, set_by, last_set}
use Rattle.network.specs.Theorems.Forwarding.{Lawful}

-- What one call does: a refused one changes nothing; a setting sets the packet to its start with 0 hops made; a hop goes by the rule for it, and only
-- moved changes the packet.
pub record CallRule (f : Forwarding) (tests : Tests f) (p : Packet f.State) (last : f.State) : Type 0 where
  pub sets : (s : f.State) → T (tests.start_ok s) → (after_call f tests (setting s) p ≡ start s) × (set_by f tests (setting s) last ≡ s)
  pub set_refused : (s : f.State) → (T (tests.start_ok s) → ⊥) → (after_call f tests (setting s) p ≡ p) × (set_by f tests (setting s) last ≡ last)
  pub hop_refused : (x : f.States) → (T (tests.hop_ok x p) → ⊥) → after_call f tests (hopping x) p ≡ p
  pub hops : (x : f.States) → T (tests.hop_ok x p) → (q : Packet f.State) → hop f x p ≡ moved q → after_call f tests (hopping x) p ≡ q
  pub stays : (x : f.States) → T (tests.hop_ok x p) → (hop f x p ≡ delivered) ⊎ (hop f x p ≡ dropped) → after_call f tests (hopping x) p ≡ p
  pub hop_sets_nothing : (x : f.States) → set_by f tests (hopping x) last ≡ last

abbrev pub CallsByRule : Type 1
CallsByRule = (f : Forwarding) (tests : Tests f) (p : Packet f.State) (last : f.State) → CallRule f tests p last

-- 01, Packet, hop and schedule: the last call of a list gets the packet as those before it left it, and where it was last set.
pub record InTurn (f : Forwarding) (tests : Tests f) (p : Packet f.State) (first : f.State) : Type 0 where
  pub no_calls : (after_calls f tests [] p ≡ p) × (last_set f tests [] first ≡ first)
  pub one_more : (cs : List (Call f)) (c : Call f) → (after_calls f tests (cs ++ (c ∷ [])) p ≡ after_call f tests c (after_calls f tests cs p))
      × (last_set f tests (cs ++ (c ∷ [])) first ≡ set_by f tests c (last_set f tests cs first))

abbrev pub CallsInTurn : Type 1
CallsInTurn = (f : Forwarding) (tests : Tests f) (p : Packet f.State) (first : f.State) → InTurn f tests p first

-- Demand 3, hop by hop. A list begins with an accepted setting at `first`, whatever the packet held; since the claim is of every list, it holds after
-- every prefix of one.
pub record CallsBounded (f : Forwarding) (tests : Tests f) (figure : f.State → ℕ) : Type 0 where
  -- hops made plus the figure of where the packet is never exceed the figure of where it was last set
  pub invariant : (p : Packet f.State) (first : f.State) → T (tests.start_ok first) → (cs : List (Call f)) →
      (after_calls f tests (setting first ∷ cs) p).hops + figure (after_calls f tests (setting first ∷ cs) p).station ≤ figure (last_set f tests cs first)
  -- so the packet never has more hops made than the figure of the station it was last set at
  pub never_passed : (p : Packet f.State) (first : f.State) → T (tests.start_ok first) → (cs : List (Call f)) →
      (after_calls f tests (setting first ∷ cs) p).hops ≤ figure (last_set f tests cs first)
  -- for each station some list that last sets it there reaches that figure
  pub reached : (p : Packet f.State) (s : f.State) → T (tests.start_ok s) → (cs : List (Call f)) × (last_set f tests cs s ≡ s)
      × ((after_calls f tests (setting s ∷ cs) p).hops ≡ figure s)

-- What the claim asks of the tests: a start that they let through has a rank of at most `left`, and what its entries lead to is let through too; so is
-- a hop under valid states from such a station while fewer than `left` hops are made.
pub record Admits (f : Forwarding) (rank : f.State → ℕ) (valid : f.States → Type 0) (tests : Tests f) (left : ℕ) : Type 0 where
  pub ranked : (s : f.State) → T (tests.start_ok s) → rank s ≤ left
  pub stays : (s : f.State) → T (tests.start_ok s) → (e : f.Entry) → Memᴰ e (f.row s) → T (tests.start_ok (f.next e))
  pub admitted : (x : f.States) → valid x → (p : Packet f.State) → T (tests.start_ok p.station) → p.hops < left → T (tests.hop_ok x p)

abbrev pub CallsExact : Type 1
CallsExact =
    (f : Forwarding) (rank : f.State → ℕ) (valid : f.States → Type 0) → Lawful f rank valid → (tests : Tests f) (left : ℕ) →
    Admits f rank valid tests left → CallsBounded f tests (longest f left)
