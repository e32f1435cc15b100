-- What a sound topology says of its links: their arcs are those of its network, each router has at most 16, and both ends of each link are listed.
-- Assumes nothing.
use Prim.Native.Nat.{ℕ, ◌+◌, ◌≤◌, ◌<◌}
use mathlib.Core.List.Memᴰ
use mathlib.Core.List.{List, [], ◌∷◌, ◌++◌, Memᴰ, map, map-append}
use mathlib.Core.Path.{◌≡◌, refl, ap, sym, ◌∙◌, subst}
use native.Mathlib.Numerals.{add-one}
use native.Mathlib.Omega.{arith}
use lib.Dec.{T}
use lib.ListN.{length, get_or, take, drop, take-append-drop, length-map}
use lib.Seq.{length-take-le, take-suc, take-take}
use Rattle.network.specs.Network.{Link, size, arcs_of, arcs_among, linked}
use Rattle.network.specs.Theorems.Network.{SoundLink}
use Rattle.network.proofs.Below.{get_d_below}
use Rattle.topology_types.specs.declared.Link as topology
use Rattle.topology_types.specs.declared.Topology.{Topology}
use Rattle.topology_types.specs.Topology.{contents, seen, network_in, network_of}
use Rattle.topology_types.proofs.Arcs.{arcs_stay}
use Rattle.topology_sound.specs.Sound.{sound}
use Rattle.topology_sound.proofs.Sound.{sound_exact, sound_networks}
use Rattle.arcs.proofs.Filled.{Next}

-- the first i links
unfoldable pub first_links : Topology → ℕ → List Link
first_links t i = map seen (take i t.link)

-- the counts, and how the network's arcs come from the links
pub record Links (t : Topology) : Type 0 where
  pub routers_most : t.routers ≤ 64
  pub links_most : t.links ≤ 256
  pub link_slots : length t.link ≡ 256
  pub size_is : size (network_of t) ≡ t.routers
  pub arcs_are : (u : ℕ) → u < t.routers → arcs_of (network_of t) u ≡ arcs_among u 0 (first_links t t.links)
  pub few : (u : ℕ) → u < t.routers → length (arcs_of (network_of t) u) ≤ 16
  pub each : (l : Link) → Memᴰ l (first_links t t.links) → SoundLink t.routers l

pub links_of : (t : Topology) → T (sound t) → Links t
unfolding contents network_of network_in linked size arcs_of first_links seen
links_of t s =
    let tested = (sound_exact t).0 s in
    let listed : length (take t.routers t.id) ≡ t.routers = (sound_networks t s).routers in
    record {
      routers_most = tested.routers_most;
      links_most = tested.links_most;
      link_slots = tested.link_slots;
      size_is = listed;
      arcs_are = λ u h. get_d_below (λ v. arcs_among v 0 (map seen (take t.links t.link))) _ u [] (omega arith);
      few = tested.neighbours;
      each = λ l m. rw listed at (tested.linked.each l m);
    }

-- the first i + 1 links are the first i and link i, and link i is one of all
module _ (t : Topology) (w : Links t) (i : ℕ) (h : i < t.links) (z : topology.Link) where
  pub next_links : first_links t (i + 1) ≡ first_links t i ++ (seen (get_or t.link i z) ∷ [])
  unfolding first_links
  next_links = rw (add-one, take-suc t.link i z (omega (arith, w.links_most, w.link_slots)), map-append)

  after : List Link
  after = map seen (drop (i + 1) (take t.links t.link))

  all_links : first_links t t.links ≡ (first_links t i ++ (seen (get_or t.link i z) ∷ [])) ++ after
  unfolding first_links after
  all_links =
      let whole = rw (take-take (i + 1) t.links t.link (omega arith)) at (take-append-drop (i + 1) (take t.links t.link)) in
      rw (← next_links) (ap (map seen) (sym whole) ∙ map-append seen (take (i + 1) t.link) (drop (i + 1) (take t.links t.link)))

  long : length (first_links t i) ≡ i
  unfolding first_links
  long = length-map (take i t.link) seen ∙ length-take-le i t.link (omega (arith, w.links_most, w.link_slots))

  pub next_fits : Next t.routers (first_links t i) (seen (get_or t.link i z)) i
  next_fits =
      let stands = Memᴰ.append_left after (Memᴰ.append_right (first_links t i) (Memᴰ.head refl)) in
      let here = w.each (seen (get_or t.link i z)) (subst (Memᴰ _) (sym all_links) stands) in
      record {
        limit = w.routers_most;
        long = long;
        first_in = here.first_listed;
        second_in = here.second_listed;
        apart = here.ends_differ;
        few = λ u k.
            omega (
              arith,
              arcs_stay u (first_links t i ++ (seen (get_or t.link i z) ∷ [])) after,
              ap (λ (ls : List Link). length (arcs_among u 0 ls)) all_links,
              ap length (w.arcs_are u k),
              w.few u k,
            );
      }
