-- The routers of LSAs, and then their halves, taken one after another: what is listed and what is still to be taken give what all of it gives.
-- Assumes nothing.
use Prim.Native.Nat.{ℕ, ◌+◌, ◌≤◌, ◌<◌}
use mathlib.Core.List.{List, [], ◌∷◌, ◌++◌, map, map-append, append_assoc, append-nil}
use mathlib.Core.Path.{◌≡◌, refl, sym, ap, subst, ◌∙◌}
use native.Mathlib.Omega.{arith}
use lib.ListN.{length, length-map}
use Rattle.std.specs.Prelude.{Result, Ok, Err}
use Rattle.network.specs.Lists.{keep}
use Rattle.topology_types.specs.declared.Half.{Half}
use Rattle.topology_types.specs.declared.Fault.{Fault}
use Rattle.topology_types.specs.declared.Topology.{Topology}
use Rattle.topology_types.specs.Outcome.{answer, number_of, failed}
use Rattle.topology_types.proofs.Outcome.{numbered}
use Rattle.stream_rules.specs.declared.Reading.{Reading}
use Rattle.stream_rules.specs.Record.{Record}
use Rattle.stream_rules.specs.Record as record_of
use Rattle.stream_rules.specs.Halves.{StreamListing, same_half, opposite}
use Rattle.stream_rules.specs.Reading.{refusal, accepted_reading, fault, with_router, added, nothing_listed}
use Rattle.stream.specs.declared.unchecked.Listing.{Listing}
use Rattle.stream.specs.Listing.{Lists, Taken}
use Rattle.stream.proofs.Filled.{good}
use Rattle.ospf_lsas.specs.Lsa.{Lsa}
use Rattle.ospf.specs.Import.{Placed, router_of, router_in, half_placed, halves_at, halves_in, placed_in, taken_to, at_last}
use Rattle.ospf.specs.Inner.{as_listed, routers_taken, listing_of, HasRouters, taken_in_turn}
use Rattle.ospf.specs.Theorems.{nothing, one_more}
use Rattle.ospf.proofs.Turns.{taken_on, taken_off, after_taken, all-taken, refused_before}
use Rattle.ospf.proofs.Listed.{ids_arrived}

-- one more is taken: a fault refuses there, without one what is left is taken on
module _ (last : StreamListing → Reading) {p : StreamListing} {l l' : Listing} {answer : Result (Unit {0}) Fault} (r : Placed) (lists : Lists p l)
    (t : Taken r.found l l' answer) (rest : List Placed) where
  off : (f : Fault) → answer ≡ Err f → refusal (number_of f) r.at ≡ taken_to last p (r ∷ rest)
  off f was =
      let number : number_of f ≡ fault p r.found = ap failed (sym was) ∙ t.number p lists in
      ap (λ (n : ℕ). refusal n r.at) number ∙ sym (taken_off last p r rest (λ z. omega (arith, numbered f, number)))

  module _ (passed : answer ≡ Ok tt) where
    none : fault p r.found ≡ 0
    none = sym (t.number p lists) ∙ ap failed passed

    on : taken_to last (added p r.found) rest ≡ taken_to last p (r ∷ rest)
    on = sym (taken_on last p r rest none)

    more : Lists (added p r.found) l'
    more = rw passed at (t.listed p lists)

-- where a router is refused, so is the whole
pub routers_refused : (ls : List Lsa) (f : Fault) (at : ℕ) → refusal (number_of f) at ≡ routers_taken ls → refusal (number_of f) at ≡ taken_in_turn ls
unfolding routers_taken taken_in_turn placed_in
routers_refused ls f at e =
    sym (refused_before at_last (number_of f) at (numbered f) nothing_listed (map router_in ls) (halves_in (map router_of ls) 0 ls) (sym e))

-- before a router
pub record Routed (ls : List Lsa) (l : Listing) (left : List Lsa) : Type 0 where
  pub before : List Lsa
  pub turn : ls ≡ before ++ left
  pub has : HasRouters before l

-- before the halves of an LSA, and its place
pub record Halving (ls : List Lsa) (l : Listing) (place : ℕ) (left : List Lsa) : Type 0 where
  pub listing : StreamListing
  pub lists : Lists listing l
  pub so : taken_to at_last listing (halves_in (map router_of ls) place left) ≡ taken_in_turn ls
  pub ids : listing.contents.ids ≡ map router_of ls
  pub turn : place + length left ≡ length ls

-- before one of the halves of an LSA
pub record Within (ls : List Lsa) (l : Listing) (this : Lsa) (place : ℕ) (hs : List Half) (left : List Lsa) : Type 0 where
  pub listing : StreamListing
  pub lists : Lists listing l
  pub so : taken_to at_last listing (map (half_placed this) hs ++ halves_in (map router_of ls) (place + 1) left) ≡ taken_in_turn ls
  pub ids : listing.contents.ids ≡ map router_of ls

module _ {ls : List Lsa} where
  pub routed_first : {l : Listing} → Lists nothing_listed l → Routed ls l ls
  unfolding nothing_listed
  routed_first lists = record { before = []; turn = refl; has = record { listing = nothing_listed; taken = nothing; lists = lists; ids = refl } }

  module _ {l l' : Listing} {answer : Result (Unit {0}) Fault} {this : Lsa} {left : List Lsa} (w : Routed ls l (this ∷ left))
      (t : Taken (record_of.Router (router_of this)) l l' answer) where
    abbrev router : Placed
    router = record { at = this.at; found = record_of.Router (router_of this) }

    pub router_off : (f : Fault) → answer ≡ Err f → refusal (number_of f) this.at ≡ routers_taken ls
    unfolding routers_taken router_in
    router_off f was =
        let rest : List Placed = map router_in left in
        off as_listed router w.has.lists t rest f was
        ∙ sym (after_taken as_listed w.has.taken (router ∷ rest))
        ∙ ap (taken_to as_listed nothing_listed) (sym (ap (map router_in) w.turn ∙ map-append router_in w.before (this ∷ left)))

    pub router_on : answer ≡ Ok tt → Routed ls l' left
    unfolding router_in added with_router
    router_on passed =
        let h = w.has in
        record {
          before = w.before ++ (this ∷ []);
          turn = w.turn ∙ sym (append_assoc w.before (this ∷ []) left);
          has =
              record {
                listing = added h.listing (record_of.Router (router_of this));
                taken = rw map-append (one_more router h.taken (none as_listed router h.lists t [] passed));
                lists = more as_listed router h.lists t [] passed;
                ids = ap (λ (ids : List ℕ). ids ++ (router_of this ∷ [])) h.ids ∙ sym (map-append router_of w.before (this ∷ []));
              };
        }

  pub routed_end : {l : Listing} → Routed ls l [] → HasRouters ls l
  routed_end {l} w = subst (λ (ls : List Lsa). HasRouters ls l) (sym (w.turn ∙ append-nil w.before)) w.has

  -- where the routers are listed, what is taken of them is the topology that has them
  pub listed_so : {l : Listing} → HasRouters ls l → listing_of (Ok l) ≡ routers_taken ls
  unfolding routers_taken as_listed accepted_reading
  listed_so {l} h =
      ap (λ (t : Topology). record { answer = answer 0 0; topology = t }) h.lists.whole
      ∙ sym (all-taken as_listed h.taken)

  -- and where none is, their halves are what is left to be taken
  pub halving_first : {l : Listing} → HasRouters ls l → Halving ls l 0 ls
  unfolding taken_in_turn placed_in
  halving_first h =
      record {
        listing = h.listing;
        lists = h.lists;
        so = sym (after_taken at_last h.taken (halves_in (map router_of ls) 0 ls));
        ids = h.ids;
        turn = omega arith;
      }

  module _ {l : Listing} {place : ℕ} {this : Lsa} {left : List Lsa} (w : Halving ls l place (this ∷ left)) where
    pub within_first : (hs : List Half) → hs ≡ halves_at w.listing.contents.ids place this → Within ls l this place hs left
    unfolding halves_in
    within_first hs are = record { listing = w.listing; lists = w.lists; so = rw are (ap (λ (ids : List ℕ). taken_to at_last w.listing (map (half_placed this) (halves_at ids place this) ++ halves_in (map router_of ls) (place + 1) left)) w.ids ∙ w.so); ids = w.ids }

    -- the place is that of a router
    pub place_fits : place < 64
    place_fits = omega (arith, w.turn, ap length w.ids, length-map ls router_of, (good w.lists).routers_fit)

  -- at most as many are left as there are routers
  pub few_left : {l : Listing} {place : ℕ} {left : List Lsa} → Halving ls l place left → length left ≤ 64
  few_left w = omega (arith, w.turn, ap length w.ids, length-map ls router_of, (good w.lists).routers_fit)

  pub ids_fit : {l : Listing} {place : ℕ} {left : List Lsa} (w : Halving ls l place left) → length w.listing.contents.ids ≤ 64
  ids_fit w = (good w.lists).routers_fit

  module _ {l l' : Listing} {answer : Result (Unit {0}) Fault} {this : Lsa} {place : ℕ} {h : Half} {hs : List Half} {left : List Lsa}
      (v : Within ls l this place (h ∷ hs) left) (t : Taken (record_of.Half h) l l' answer) where
    abbrev behind : List Placed
    behind = map (half_placed this) hs ++ halves_in (map router_of ls) (place + 1) left

    abbrev one : Placed
    one = record { at = this.at; found = record_of.Half h }

    pub half_off : (f : Fault) → answer ≡ Err f → refusal (number_of f) this.at ≡ taken_in_turn ls
    unfolding half_placed
    half_off f was = off at_last one v.lists t behind f was ∙ v.so

    pub half_on : answer ≡ Ok tt → Within ls l' this place hs left
    unfolding half_placed added
    half_on passed =
        record {
          listing = added v.listing (record_of.Half h);
          lists = more at_last one v.lists t behind passed;
          so = on at_last one v.lists t behind passed ∙ v.so;
          ids = ids_arrived v.listing h (keep (same_half (opposite h)) v.listing.lone) ∙ v.ids;
        }

  pub halving_end : {l : Listing} {place : ℕ} (w : Halving ls l place []) → at_last w.listing ≡ taken_in_turn ls
  unfolding halves_in taken_to
  halving_end w = w.so
