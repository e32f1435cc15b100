-- Each table is of one kind: on an unsound topology, wrong somewhere, or given by some order and K. What `table_checking` answers follows from the kind,
-- and since the answers of the kinds differ, the kind from the answer.
-- Assumes nothing.
use Prim.Native.Nat.{ℕ, ◌+◌, ◌*◌}
use mathlib.Core.Bool.{true}
use mathlib.Core.List.{List, [], ◌∷◌}
use mathlib.Core.Logic.{◌⊎◌, inl, inr}
use mathlib.Core.Path.{◌≡◌, refl, sym, ap, ◌∙◌, subst}
use native.Mathlib.Decide.{ℕ_discrete}
use native.Mathlib.Omega.{arith}
use borrow.Author.Tests.{eq-eqb, ne_eqb}
use lib.Dec.{T}
use lib.ListN.{length, get_or}
use Rattle.network.specs.Network.{size}
use Rattle.network.proofs.Tests.{truth, as_true, as_false}
use Rattle.topology_types.specs.declared.Answer.{Answer}
use Rattle.topology_types.specs.declared.Topology.{Topology}
use Rattle.topology_types.specs.Topology.{network_of}
use Rattle.topology_types.specs.Outcome.{answer}
use Rattle.topology_sound.specs.Sound.{sound}
use Rattle.topology_sound.proofs.Sound.{sound_networks}
use Rattle.order.specs.Calls.{refused_at_first}
use Rattle.table_rows.specs.Layout.{row_start_lem, number_at}
use Rattle.table_rows.specs.Bytes.{table_bytes}
use Rattle.table.specs.Listed.{destination_in_lem, limit_in_lem}
use Rattle.table.specs.Calls.{wrong_bytes, differing, table_judging, table_checking, right_bytes}
use Rattle.table.specs.Theorems.{TableIs, GivenBy, SomeGive, SoundStart, WrongTableAt, by_length, by_start, by_byte}
use Rattle.table.specs.Theorems.{TablesExact, OnlyOneGives, TableChecked, TablesEach, AcceptedGiven}
use Rattle.table.proofs.Bytes.{bytes_exact}
use Rattle.table.proofs.Accepting.{starts?, its_order, starts, start_passes, none_differs, agree, first_apart, apart_first}

-- the bytes of a table are as many as the topology's routers ask for
pub table_long : (t : Topology) → T (sound t) → {d limit : ℕ} {order table : List ℕ} → TableIs (network_of t) d limit order table →
    length table ≡ 4 + 19 * t.routers
table_long t s b = b.long ∙ ap (λ (count : ℕ). 4 + 19 * count) (sound_networks t s).routers

-- one answer has one number and one place
one_answer : {x : Answer} (k k' at at' : ℕ) → x ≡ answer k at → x ≡ answer k' at' → (k ≡ k') × (at ≡ at')
one_answer k k' at at' e e' = (ap (λ (y : Answer). y.number) (sym e ∙ e'), ap (λ (y : Answer). y.at) (sym e ∙ e'))

module _ (t : Topology) (table : List ℕ) where
  unsound : (T (sound t) → ⊥) → table_checking t table ≡ answer 14 0
  unfolding table_checking table_judging
  unsound out = rw (as_false (sound t) out)

  -- the table for the header's destination and K and this order
  abbrev its_bytes : List ℕ → List ℕ
  its_bytes order = table_bytes (network_of t) (get_or table 1 0) (get_or table 3 0) order

  module _ (is-sound : T (sound t)) where
    good : sound t ≡ true
    good = as_true (sound t) is-sound

    same_size : size (network_of t) ≡ t.routers
    same_size = (sound_networks t is-sound).routers

    module _ (order : List ℕ) (s : SoundStart t table order) where
      its_wrong : wrong_bytes (network_of t) t.routers table ≡ differing table (its_bytes order)
      unfolding wrong_bytes right_bytes destination_in_lem limit_in_lem number_at
      its_wrong = rw (its_order t is-sound table order s)

      its_long : length (its_bytes order) ≡ 4 + 19 * t.routers
      its_long = table_long t is-sound ((bytes_exact (network_of t) _ _ s.limit_most order (its_bytes order)).0 refl)

      given_by : table ≡ its_bytes order → GivenBy t table (get_or table 1 0) (get_or table 3 0) order
      given_by e =
          record {
            place = s.destination;
            limit_least = s.limit_least;
            limit_most = s.limit_most;
            in_free = s.in_free;
            bytes = (bytes_exact (network_of t) _ _ s.limit_most order table).0 e;
          }

    module _ (d limit : ℕ) (order : List ℕ) (g : GivenBy t table d limit order) where
      pub start_of : SoundStart t table order
      start_of =
          let b = g.bytes in
          record {
            kind = b.kind;
            destination = rw b.destination g.place;
            count = b.count ∙ same_size;
            limit_least = rw b.limit_is g.limit_least;
            limit_most = rw b.limit_is g.limit_most;
            in_free = rw b.destination g.in_free;
            ranks = λ u h. (b.rows u (omega (arith, same_size))).rank_is;
          }

      bytes_of : table ≡ its_bytes order
      bytes_of =
          let b = g.bytes in
          rw (b.destination, b.limit_is) ((bytes_exact (network_of t) d limit g.limit_most order table).1 b)

    -- what is wrong is refused, and what is given is accepted
    refuses : (at : ℕ) → WrongTableAt t table at → table_checking t table ≡ answer 21 at
    unfolding table_checking table_judging row_start_lem refused_at_first
    refuses at (by_length out e) = rw (good, ne_eqb (length table) (4 + 19 * t.routers) out, e)
    refuses at (by_start long none e) =
        rw (good, eq-eqb (length table) (4 + 19 * t.routers) long, as_false (starts? t table) (λ p. none _ (starts t is-sound table p)), e)
    refuses at (by_byte long order s w) =
        let (rest, e) = apart_first table (its_bytes order) at (w.within, w.wrong, w.earlier) in
        rw (
          good,
          eq-eqb (length table) (4 + 19 * t.routers) long,
          as_true (starts? t table) (start_passes t is-sound table order s),
          its_wrong order s,
          e,
        )

    accepts : SomeGive t table → table_checking t table ≡ answer 0 0
    unfolding table_checking table_judging row_start_lem refused_at_first
    accepts (d, limit, order, g) =
        let s = start_of d limit order g in
        rw (
          good,
          eq-eqb (length table) (4 + 19 * t.routers) (table_long t is-sound g.bytes),
          as_true (starts? t table) (start_passes t is-sound table order s),
          its_wrong order s,
          none_differs table (its_bytes order) (bytes_of d limit order g),
        )

    -- a table is wrong somewhere, or some order and K give it
    abbrev Judged : Type 0
    Judged = ((at : ℕ) × WrongTableAt t table at) ⊎ SomeGive t table

    judge_bytes : length table ≡ 4 + 19 * t.routers → (order : List ℕ) → SoundStart t table order → (wrong : List ℕ) →
        differing table (its_bytes order) ≡ wrong → Judged
    judge_bytes long order s [] e =
        inr (_, _, order, given_by order s (agree table (its_bytes order) (long ∙ sym (its_long order s)) e))
    judge_bytes long order s (at ∷ rest) e =
        let (within, wrong, earlier) = first_apart table (its_bytes order) at rest e in
        inl (at, by_byte long order s (record { within = within; wrong = wrong; earlier = earlier }))

    judge_start : length table ≡ 4 + 19 * t.routers → T (starts? t table) ⊎ (T (starts? t table) → ⊥) → Judged
    judge_start long (inl p) = judge_bytes long _ (starts t is-sound table p) _ refl
    judge_start long (inr out) = inl (0, by_start long (λ order s. out (start_passes t is-sound table order s)) refl)

    judge_length : Dec (length table ≡ 4 + 19 * t.routers) → Judged
    judge_length (yes long) = judge_start long (truth (starts? t table))
    judge_length (no out) = inl (length table, by_length out refl)

    judged : Judged
    judged = judge_length (ℕ_discrete (length table) (4 + 19 * t.routers))

  module _ (at : ℕ) where
    says_14 : table_checking t table ≡ answer 14 at → (at ≡ 0) × (T (sound t) → ⊥)
    says_14 e = step (truth (sound t))
      where
        other : (s : T (sound t)) → Judged s → ⊥
        other s (inl (r, w)) = omega (arith, one_answer 14 21 at r e (refuses s r w))
        other s (inr g) = omega (arith, one_answer 14 0 at 0 e (accepts s g))

        step : T (sound t) ⊎ (T (sound t) → ⊥) → (at ≡ 0) × (T (sound t) → ⊥)
        step (inl s) = absurd (other s (judged s))
        step (inr out) = ((one_answer 14 14 at 0 e (unsound out)).1, out)

    says_21 : table_checking t table ≡ answer 21 at → T (sound t) × WrongTableAt t table at
    says_21 e = step (truth (sound t))
      where
        there : (s : T (sound t)) → Judged s → WrongTableAt t table at
        there s (inl (r, w)) = subst (WrongTableAt t table) (sym (one_answer 21 21 at r e (refuses s r w)).1) w
        there s (inr g) = absurd (omega (arith, one_answer 21 0 at 0 e (accepts s g)))

        step : T (sound t) ⊎ (T (sound t) → ⊥) → T (sound t) × WrongTableAt t table at
        step (inl s) = (s, there s (judged s))
        step (inr out) = absurd (omega (arith, one_answer 21 14 at 0 e (unsound out)))

    says_0 : table_checking t table ≡ answer 0 at → (at ≡ 0) × T (sound t) × SomeGive t table
    says_0 e = step (truth (sound t))
      where
        there : (s : T (sound t)) → Judged s → (at ≡ 0) × T (sound t) × SomeGive t table
        there s (inl (r, w)) = absurd (omega (arith, one_answer 0 21 at r e (refuses s r w)))
        there s (inr g) = ((one_answer 0 0 at 0 e (accepts s g)).1, s, g)

        step : T (sound t) ⊎ (T (sound t) → ⊥) → (at ≡ 0) × T (sound t) × SomeGive t table
        step (inl s) = there s (judged s)
        step (inr out) = absurd (omega (arith, one_answer 0 14 at 0 e (unsound out)))

    checked : TableChecked t table at
    checked =
        record {
          says_14 = (says_14, λ (e, out). unsound out ∙ ap (answer 14) (sym e));
          says_21 = (says_21, λ (s, w). refuses s at w);
          says_0 = (says_0, λ (e, s, g). accepts s g ∙ ap (answer 0) (sym e));
        }

pub tables_each : TablesEach
tables_each = checked

pub tables_exact : TablesExact
tables_exact t s table = (λ e. (says_0 t table 0 e).2, accepts t table s)

-- what gives an accepted table: the header's destination and K, and the order that the ranks form
pub accepted_given : AcceptedGiven
accepted_given t s table e =
    let (d, limit, order, g) = (tables_exact t s table).0 e in
    rw (g.bytes.destination, g.bytes.limit_is, its_order t s table order (start_of t table s d limit order g)) g

pub only_one_gives : OnlyOneGives
only_one_gives t s table d limit order g d' limit' order' g' =
    let of = its_order t s table in (
      sym g.bytes.destination ∙ g'.bytes.destination,
      sym g.bytes.limit_is ∙ g'.bytes.limit_is,
      sym (of order (start_of t table s d limit order g)) ∙ of order' (start_of t table s d' limit' order' g'),
    )
