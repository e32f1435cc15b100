-- What `sound` tests, part by part, and the network of a sound topology: its links are sound, so it is well formed.
-- Assumes nothing.
use Prim.Native.Nat.{ℕ, ◌≤◌, ◌^◌}
use mathlib.Core.Bool.{Bool, ◌&&◌}
use mathlib.Core.List.{map}
use mathlib.Core.Logic.{◌↔◌}
use mathlib.Core.Path.{◌≡◌, refl, sym, ◌∙◌}
use native.Mathlib.Omega.{arith}
use lib.Dec.{T, eqb, leb, ltb, eqb→eq, leb→le, le→leb, ltb→lt, lt→ltb}
use lib.ListN.{length, drop, length-map}
use lib.Seq.{length-take-le}
use Rattle.network.specs.Lists.{below, every}
use Rattle.network.specs.Network.{size, linked}
use Rattle.network.proofs.Tests.{both, and, three, and_three, eq_test}
use Rattle.network.proofs.Lists.{every_all, all_every}
use Rattle.network.proofs.Below.{mem_below, below_lt}
use Rattle.network.proofs.SoundLinks.{sound_links_exact}
use Rattle.network.proofs.Linked.{linked_well_formed, linked_exact}
use Rattle.topology_types.specs.declared.Link.{Link}
use Rattle.topology_types.specs.declared.Topology.{Topology}
use Rattle.topology_types.specs.Topology.{contents, seen, network_in, network_of}
use Rattle.topology_sound.specs.Sound.{within, in_limits_lem, well_linked, uncrowded, is_no_link, unused_zero, slotted, sound}
use Rattle.topology_sound.specs.Theorems.{NetworkSeen, Sound, SoundExact, SoundNetworks}

-- the five tests
pub record Tested (t : Topology) : Type 0 where
  pub limits : T (in_limits_lem t)
  pub linked : T (well_linked t)
  pub uncrowded : T (uncrowded t)
  pub unused : T (unused_zero t)
  pub slots : T (slotted t)

five : (a b c d e : Bool) → T (a && b && c && d && e) → T a × T b × T c × T d × T e
five a b c d e t =
    let (abc, td, te) = three (a && b && c) d e t in
    let (ta, tb, tc) = three a b c abc in
    (ta, tb, tc, td, te)

and_five : (a b c d e : Bool) → T a → T b → T c → T d → T e → T (a && b && c && d && e)
and_five a b c d e ta tb tc td te = and_three (a && b && c) d e (and_three a b c ta tb tc) td te

pub tested : (t : Topology) → T (sound t) → Tested t
unfolding sound
tested t s =
    let (a, b, c, d, e) = five (in_limits_lem t) (well_linked t) (uncrowded t) (unused_zero t) (slotted t) s in
    record { limits = a; linked = b; uncrowded = c; unused = d; slots = e }

pub all_tested : (t : Topology) → Tested t → T (sound t)
unfolding sound
all_tested t s =
    and_five (in_limits_lem t) (well_linked t) (uncrowded t) (unused_zero t) (slotted t) s.limits s.linked s.uncrowded s.unused s.slots

pub within_fact : (most n : ℕ) → T (within most n) ↔ ((1 ≤ n) × (n ≤ most))
unfolding within
within_fact most n = (
  λ t. let (a, b) = both (leb 1 n) (leb n most) t in (leb→le 1 n a, leb→le n most b),
  λ (a, b). and (leb 1 n) (leb n most) (le→leb 1 n a) (le→leb n most b),
)

-- so many are listed as the counts say, if there are so many slots
pub routers_listed : (t : Topology) → t.routers ≤ length t.id → length (contents t).ids ≡ t.routers
unfolding contents
routers_listed t h = length-take-le t.routers t.id h

pub links_listed : (t : Topology) → t.links ≤ length t.link → length (contents t).links ≡ t.links
unfolding contents
links_listed t h = length-take-le t.links t.link h

no-link : (l : Link) → T (is_no_link l) ↔ ((l.first.0 ≡ 0) × (l.second.0 ≡ 0) × (l.cost ≡ 0) × (l.back ≡ 0))
unfolding is_no_link
no-link l = (
  λ t.
      let (places, c, d) = three (eqb l.first.0 0 && eqb l.second.0 0) (eqb l.cost 0) (eqb l.back 0) t in
      let (a, b) = both (eqb l.first.0 0) _ places in
      (eqb→eq _ _ a, eqb→eq _ _ b, eqb→eq _ _ c, eqb→eq _ _ d),
  λ (a, b, c, d).
      and_three (eqb l.first.0 0 && eqb l.second.0 0) (eqb l.cost 0) (eqb l.back 0)
      (and (eqb l.first.0 0) (eqb l.second.0 0) (eq_test a) (eq_test b)) (eq_test c) (eq_test d),
)

sound_facts : (t : Topology) → T (sound t) → Sound t
unfolding in_limits_lem well_linked uncrowded unused_zero slotted contents seen network_of
sound_facts t s =
    let w = tested t s in
    let (few, links-few, hops) = three (within 64 t.routers) (leb t.links 256) (within 16 t.limit) w.limits in
    let (slots, link_slots, fit) = three (eqb (length t.id) 64) (eqb (length t.link) 256) (every (λ i. ltb i (2 ^ 32)) t.id) w.slots in
    let (ids-zero, links-zero) = both (every (eqb 0) (drop t.routers t.id)) (every is_no_link (drop t.links t.link)) w.unused in
    let (least, most) = (within_fact 64 t.routers).0 few in
    let (limit_least, limit_most) = (within_fact 16 t.limit).0 hops in
    let id_slots : length t.id ≡ 64 = eqb→eq _ _ slots in
    let listed : length (contents t).ids ≡ t.routers = routers_listed t (omega arith) in
    record {
      routers_least = least;
      routers_most = most;
      links_most = leb→le t.links 256 links-few;
      limit_least = limit_least;
      limit_most = limit_most;
      linked = (sound_links_exact _ _).0 w.linked;
      neighbours = λ u h. leb→le _ _ (every_all _ (below t.routers) w.uncrowded u (mem_below h));
      ids_unused = λ i m. sym (eqb→eq 0 i (every_all _ (drop t.routers t.id) ids-zero i m));
      links_unused = λ l m. (no-link l).0 (every_all _ (drop t.links t.link) links-zero l m);
      id_slots = id_slots;
      link_slots = eqb→eq _ _ link_slots;
      ids_fit = λ i m. ltb→lt i (2 ^ 32) (every_all _ t.id fit i m);
    }

facts_sound : (t : Topology) → Sound t → T (sound t)
unfolding in_limits_lem well_linked uncrowded unused_zero slotted contents seen network_of
facts_sound t s =
    let listed : length (contents t).ids ≡ t.routers = routers_listed t (omega arith) in
    all_tested t
    record {
      limits =
          and_three (within 64 t.routers) (leb t.links 256) (within 16 t.limit)
          ((within_fact 64 t.routers).1 (s.routers_least, s.routers_most)) (le→leb _ _ s.links_most)
          ((within_fact 16 t.limit).1 (s.limit_least, s.limit_most));
      linked = (sound_links_exact _ _).1 s.linked;
      uncrowded = all_every _ (below t.routers) (λ u m. le→leb _ _ (s.neighbours u (below_lt t.routers m)));
      unused =
          and (every (eqb 0) (drop t.routers t.id)) (every is_no_link (drop t.links t.link))
          (all_every _ (drop t.routers t.id) (λ i m. eq_test (sym (s.ids_unused i m))))
          (all_every _ (drop t.links t.link) (λ l m. (no-link l).1 (s.links_unused l m)));
      slots =
          and_three (eqb (length t.id) 64) (eqb (length t.link) 256) (every (λ i. ltb i (2 ^ 32)) t.id) (eq_test s.id_slots)
          (eq_test s.link_slots) (all_every _ t.id (λ i m. lt→ltb i (2 ^ 32) (s.ids_fit i m)));
    }

pub sound_exact : SoundExact
sound_exact t = (sound_facts t, facts_sound t)

pub network_seen : NetworkSeen
unfolding network_of network_in contents seen
network_seen t = refl

pub sound_networks : SoundNetworks
unfolding network_of network_in contents well_linked size linked
sound_networks t s =
    let w = tested t s in
    let f = sound_facts t s in
    let listed : length (contents t).ids ≡ t.routers = routers_listed t (omega arith) in
    let links-in : length (contents t).links ≡ t.links = links_listed t (omega arith) in
    let n = linked_exact (contents t).ids (map seen (contents t).links) w.linked in
    record {
      well_formed = linked_well_formed (contents t).ids (map seen (contents t).links) w.linked;
      routers = listed;
      links = n.same-links ∙ length-map (contents t).links seen ∙ links-in;
    }
