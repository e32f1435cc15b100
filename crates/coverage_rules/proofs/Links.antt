-- A link has two arcs, one from each of its ends; were both listed, each end would rank before the other. So no link is listed twice.
-- Assumes nothing.
use Prim.Native.Nat.{ℕ, ◌≤◌, ◌<◌}
use mathlib.Core.List.Memᴰ
use mathlib.Core.List.{List, Memᴰ, map}
use mathlib.Core.Logic.{◌≢◌, ⊎_elim}
use mathlib.Core.Path.{◌≡◌, refl, sym, ◌∙◌, ap}
use native.Mathlib.Omega.{arith}
use lib.Dec.{T}
use lib.ListN.{get_or, length-map}
use lib.Seq.{get_or_at}
use Rattle.network.specs.Lists.{below, Pairwise}
use Rattle.network.specs.Network.{Arc, Link, size, arcs_of}
use Rattle.network.specs.Distance.{distances}
use Rattle.network.specs.Order.{shortest-path, build}
use Rattle.network.specs.Row.{rank, full_row, row}
use Rattle.network.specs.Theorems.Network.{LinkOf}
use Rattle.network.proofs.Below.{below_distinct, below_lt}
use Rattle.network.proofs.Linked.{linked_exact}
use Rattle.network.proofs.Lists.{mem_take}
use Rattle.network.proofs.Pigeon.{at_most}
use Rattle.network.proofs.Row.{full_row_exact, rows_sound}
use Rattle.network.proofs.Sort.{pairwise_map}
use Rattle.topology_types.specs.declared.Topology.{Topology}
use Rattle.topology_types.specs.Topology.{contents, seen, network_in, network_of}
use Rattle.topology_sound.specs.Sound.{sound, well_linked}
use Rattle.topology_sound.proofs.Sound.{tested, sound_networks, sound_exact, routers_listed}
use Rattle.topology.specs.Written.{joined_over}
use Rattle.forwarding_rules.proofs.Rules.{mem_joined}
use Rattle.coverage_rules.specs.Coverage.{row_for, listed_for}
use Rattle.coverage_rules.proofs.Lists.{pairwise_joined, pairwise_over}

-- two arcs of one link, from different ends: each leads to where the other leaves
seen_twice : {ls : List Link} {u v : ℕ} {a b : Arc} → LinkOf ls u a → LinkOf ls v b → a.link ≡ b.link → u ≢ v → (a.to ≡ v) × (b.to ≡ u)
seen_twice {ls} {u} {v} {a} {b} p q same apart =
    let there : (w : ℕ) (c : Arc) (o : LinkOf ls w c) → get_or ls c.link p.link ≡ o.link =
    λ w c o. rw (o.number, o.stands) (get_or_at o.before o.link o.after p.link _ refl) in
    let one : p.link ≡ q.link = sym (there u a p) ∙ rw same (there v b q) in
    let first : p.link.first ≡ q.link.first = ap (λ (l : Link). l.first) one in
    let second : p.link.second ≡ q.link.second = ap (λ (l : Link). l.second) one in
    ⊎_elim
    (λ (e, to, _). ⊎_elim (λ (f, to', _). absurd (apart (sym e ∙ first ∙ f))) (λ (f, to', _). (to ∙ second ∙ f, to' ∙ sym first ∙ e)) q.ends)
    (λ (e, to, _). ⊎_elim (λ (f, to', _). (to ∙ first ∙ f, to' ∙ sym second ∙ e)) (λ (f, to', _). absurd (apart (sym e ∙ second ∙ f))) q.ends)
    p.ends

module _ (t : Topology) (good : T (sound t)) (d : ℕ) (place : d < t.routers) where
  abbrev order : List ℕ
  order = build (network_of t) d shortest-path

  inside : d < size (network_of t)
  inside = omega (arith, (sound_networks t good).routers)

  of_link : (u : ℕ) → u < t.routers → (a : Arc) → Memᴰ a (arcs_of (network_of t) u) → LinkOf (map seen (contents t).links) u a
  unfolding network_of network_in well_linked
  of_link u h a m =
      let listed = routers_listed t (omega (arith, ((sound_exact t).0 good).id_slots, ((sound_exact t).0 good).routers_most)) in
      ((linked_exact (contents t).ids (map seen (contents t).links) (tested t good).linked).arcs u (omega (arith, listed)) a).0 m

  -- an entry is an arc that leads to a lower rank
  entry : (u : ℕ) {a : Arc} → Memᴰ a (row_for t d u) → Memᴰ a (arcs_of (network_of t) u) × (rank order a.to < rank order u)
  unfolding row_for row
  entry u {a} m =
      ((full_row_exact (network_of t) (sound_networks t good).well_formed d inside order u).holds a).0
      (mem_take t.limit (full_row (network_of t) (distances (network_of t) d) order u) m)

  apart : (u v : ℕ) → u < t.routers → v < t.routers → u ≢ v →
      (a b : Arc) → Memᴰ a (row_for t d u) → Memᴰ b (row_for t d v) → a.link ≢ b.link
  apart u v h k differ a b m l same =
      let (arc, lower) = entry u m in
      let (arc', lower') = entry v l in
      let (to, back) = seen_twice (of_link u h a arc) (of_link v k b arc') same differ in
      let down : rank order v < rank order u = rw (← to) lower in
      let up : rank order u < rank order v = rw (← back) lower' in
      omega arith

  abbrev entries : List Arc
  entries = joined_over (row_for t d) (below t.routers)

  links_once : Pairwise (λ a b. a.link ≢ b.link) entries
  unfolding row_for
  links_once =
      pairwise_joined (λ a b. a.link ≢ b.link) (row_for t d)
      (λ u m. (rows_sound (network_of t) (sound_networks t good).well_formed d inside t.limit order u).links_differ)
      (pairwise_map (λ u v m k differ. apart u v (below_lt _ m) (below_lt _ k) differ) (below_distinct t.routers))

  link_below : (a : Arc) → Memᴰ a entries → a.link < t.links
  link_below a m =
      let (u, k, l) = mem_joined (row_for t d) (below t.routers) m in
      omega (arith, ((sound_networks t good).well_formed.sound u a (entry u l).0).numbered, (sound_networks t good).links)

  pub listed_most : listed_for t d ≤ t.links
  unfolding listed_for
  listed_most =
      rw (length-map entries (λ a. a.link)) at
      (at_most t.links (map (λ (a : Arc). a.link) entries) (pairwise_over (λ m n. m ≢ n) (λ (a : Arc). a.link) links_once)
      (λ n m. let (a, k, e) = Memᴰ.of_map (λ (a : Arc). a.link) entries m in rw (← e) (link_below a k)))
