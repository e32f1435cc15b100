-- What is taken of a file, in turn: the router of each LSA, and then the halves that each gives at its place.
-- Assumes nothing.
use Prim.Native.Nat.{ℕ, ◌+◌}
use mathlib.Core.Bool.{false}
use mathlib.Core.List.{List, [], ◌∷◌, ◌++◌, map, Memᴰ}
use mathlib.Core.Path.{◌≡◌, refl, ap, ap₂, subst}
use native.Mathlib.Omega.{arith}
use Rattle.stream_rules.specs.Record as record_of
use Rattle.ospf_lsas.specs.Lsa.{malformed, Lsa, lsas}
use Rattle.stream_rules.specs.Theorems.{four_at}
use Rattle.ospf.specs.Import.{Placed, router_of, router_in, half_placed, halves_at, halves_in, placed_in}
use Rattle.ospf.specs.Theorems.{HalvesInTurn, no_lsa, next_lsa, PlacedInTurn}
use Rattle.ospf_lsas.proofs.Fields.{fields_each}
use Rattle.ospf_lsas.proofs.Malformed.{cut}

-- the Advertising Router by its bytes
id_is : (l : Lsa) → malformed l.bytes ≡ false → router_of l ≡ four_at l.bytes 8
unfolding router_of
id_is l e = let c = cut l.bytes e in (fields_each l.bytes (omega (arith, c.begun, c.fits))).advertising-router

ids_are : (ls : List Lsa) → ((l : Lsa) → Memᴰ l ls → malformed l.bytes ≡ false) → map router_of ls ≡ map (λ l. four_at l.bytes 8) ls
ids_are [] whole = refl
ids_are (l ∷ ls) whole =
    ap₂ (λ (i : ℕ) (is : List ℕ). i ∷ is) (id_is l (whole l (Memᴰ.head refl))) (ids_are ls (λ k m. whole k (Memᴰ.tail m)))

routers_are : (ls : List Lsa) → ((l : Lsa) → Memᴰ l ls → malformed l.bytes ≡ false) →
    map router_in ls ≡ map (λ l. record { at = l.at; found = record_of.Router (four_at l.bytes 8) }) ls
unfolding router_in
routers_are [] whole = refl
routers_are (l ∷ ls) whole =
    ap₂ (λ (i : ℕ) (rs : List Placed). record { at = l.at; found = record_of.Router i } ∷ rs) (id_is l (whole l (Memᴰ.head refl)))
    (routers_are ls (λ k m. whole k (Memᴰ.tail m)))

halves_in_turn : (ids : List ℕ) (place : ℕ) (ls : List Lsa) → HalvesInTurn ids place ls (halves_in ids place ls)
unfolding halves_in half_placed halves_at
halves_in_turn ids place [] = no_lsa
halves_in_turn ids place (l ∷ ls) = next_lsa l (halves_in_turn ids (place + 1) ls)

pub placed_in_turn : PlacedInTurn
unfolding placed_in
placed_in_turn file whole =
    record {
      halves = halves_in (map router_of (lsas file)) 0 (lsas file);
      routers_first = ap (λ (rs : List Placed). rs ++ halves_in (map router_of (lsas file)) 0 (lsas file)) (routers_are (lsas file) whole);
      then_halves =
          subst (λ (is : List ℕ). HalvesInTurn is 0 (lsas file) (halves_in (map router_of (lsas file)) 0 (lsas file))) (ids_are (lsas file) whole)
          (halves_in_turn (map router_of (lsas file)) 0 (lsas file));
    }
