-- The records of good contents are taken in turn with no fault: the routers one after the other, each new among those before it, then the links, each
-- new among those before it, by one record or by two. The tests of each are told by what holds of the whole lists.
-- Assumes nothing.
use Prim.Native.Nat.{ℕ, ◌+◌, ◌≤◌, ◌<◌}
use mathlib.Core.List.{List, [], ◌∷◌, ◌++◌, append-nil, append_assoc}
use mathlib.Core.Path.{◌≡◌, refl, sym, ap, ◌∙◌, subst}
use native.Mathlib.Omega.{arith}
use borrow.Author.Tests.{ne_eqb}
use lib.Dec.{T}
use lib.ListN.{length, length-append}
use lib.Seq.{append_snoc}
use Rattle.network.specs.Lists.{member, Distinct}
use Rattle.network.proofs.Tests.{as_false, passes}
use Rattle.network.proofs.Lists.{member_mem, pairwise_split}
use Rattle.topology_types.specs.declared.Link.{Link}
use Rattle.topology_types.specs.Topology.{Contents}
use Rattle.topology_sound.specs.Sound.{within}
use Rattle.stream_rules.specs.Record.{Record}
use Rattle.stream_rules.specs.Record as record_of
use Rattle.stream_rules.specs.Halves.{StreamListing}
use Rattle.stream_rules.specs.Reading.{accepted_reading, fault, with_router, with_limit, added, width, is_end, ended, unless, any_record?, in_turn, nothing_listed}
use Rattle.stream_rules.proofs.NoFault.{NewRouter, router_passes}
use Rattle.stream_rules.proofs.InTurn.{goes_on}
use Rattle.topology.specs.Written.{joined_over}
use Rattle.topology.proofs.LinkTaken.{Goes, first, followed, GoodLinks, linked, link_taken}
use Rattle.topology.proofs.Rewritten.{router_records, link_records, records_of}

module _ (k : ℕ) (rest : List Record) where
  abbrev routed : List ℕ → StreamListing
  routed ids = record { contents = record { ids = ids; links = []; limit = k }; lone = [] }

  new_router : (before : List ℕ) (id : ℕ) (after : List ℕ) → Distinct (before ++ (id ∷ after)) → length (before ++ (id ∷ after)) ≤ 64 →
      NewRouter (routed before).contents id
  new_router before id after differ few =
      record {
        unlisted = as_false (member id before) (λ t. pairwise_split before id after differ id (member_mem id before t) refl);
        room = omega (arith, length-append before (id ∷ after));
      }

  routers-taken : (after before : List ℕ) (at : ℕ) → Distinct (before ++ after) → length (before ++ after) ≤ 64 →
      Goes (in_turn at (routed before) (joined_over router_records after ++ rest)) (routed (before ++ after)) rest
  unfolding fault added with_router is_end joined_over
  routers-taken [] before at differ few = record { at = at; on = rw append-nil }
  routers-taken (id ∷ after) before at differ few =
      let e = append_snoc before id after in
      first (goes_on at (routed before) (record_of.Router id) _ ((router_passes (routed before).contents id).1 (new_router before id after differ few)) refl)
      (rw e at (routers-taken after (before ++ (id ∷ [])) (at + width (record_of.Router id)) (rw e differ) (rw e few)))

regrouped : (at : ℕ) (p : StreamListing) {q : StreamListing} (xs ys zs rest : List Record) → Goes (in_turn at p (xs ++ (ys ++ zs))) q rest →
    Goes (in_turn at p ((xs ++ ys) ++ zs)) q rest
regrouped at p xs ys zs rest g = rw append_assoc g

module _ (k : ℕ) (ids : List ℕ) (rest : List Record) (all : List Link) (s : GoodLinks ids all) where
  links_taken : (after before : List Link) (at : ℕ) → before ++ after ≡ all →
      Goes (in_turn at (linked k ids before []) (joined_over link_records after ++ rest)) (linked k ids all []) rest
  unfolding joined_over
  links_taken [] before at e = record { at = at; on = ap (λ (ls : List Link). in_turn at (linked k ids ls []) rest) (sym (append-nil before) ∙ e) }
  links_taken (l ∷ after) before at e =
      regrouped at (linked k ids before []) (link_records l) (joined_over link_records after) rest rest
      (followed (link_taken k ids before l after (subst (GoodLinks ids) (sym e) s) at (joined_over link_records after ++ rest))
      (λ here. links_taken after (before ++ (l ∷ [])) here (append_snoc before l after ∙ e)))

-- K, in place of the one that stands before the first record
limit_taken : (k : ℕ) (rest : List Record) → T (within 16 k) →
    Goes (in_turn 0 nothing_listed (record_of.Limit k ∷ rest)) (record { contents = record { ids = []; links = []; limit = k }; lone = [] }) rest
unfolding nothing_listed fault added with_limit is_end
limit_taken k rest t = record { at = _; on = goes_on 0 nothing_listed (record_of.Limit k) rest (passes (within 16 k) t 0 16) refl }

end_taken : (at : ℕ) (c : Contents) → 0 < length c.ids → in_turn at (record { contents = c; lone = [] }) (record_of.End ∷ []) ≡ accepted_reading c
unfolding in_turn unless fault is_end any_record? ended
end_taken at c some = rw (ne_eqb (length c.ids) 0 (λ z. omega arith))

pub record GoodContents (c : Contents) : Type 0 where
  pub some : 0 < length c.ids
  pub few : length c.ids ≤ 64
  pub limit : T (within 16 c.limit)
  pub links : GoodLinks c.ids c.links

pub all-taken : (c : Contents) → GoodContents c → in_turn 0 nothing_listed (records_of c) ≡ accepted_reading c
unfolding records_of
all-taken c g =
    let k = c.limit in
    let end = record_of.End ∷ [] in
    let links = joined_over link_records c.links ++ end in
    let after-limit = limit_taken k (joined_over router_records c.ids ++ links) g.limit in
    let after-routers = routers-taken k links c.ids [] after-limit.at g.links.facts.ids-differ g.few in
    let after-links = links_taken k c.ids end c.links g.links c.links [] after-routers.at refl in
    after-limit.on ∙ after-routers.on ∙ after-links.on ∙ end_taken after-links.at c g.some
