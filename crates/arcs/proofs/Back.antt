-- A link with its costs exchanged has the same ends: so the links stay sound, a router has as many arcs among them, and each arc is that of the
-- other end.
-- Assumes nothing.
use Prim.Native.Nat.{ℕ, suc, ◌≤◌, ◌<◌}
use mathlib.Core.Bool.{Bool, true, false, cond}
use mathlib.Core.List.Memᴰ
use mathlib.Core.List.{List, [], ◌∷◌, ◌++◌, map, map-append, map-map, map-id}
use mathlib.Core.Logic.{inl, inr, ⊎_elim}
use mathlib.Core.Path.{◌≡◌, refl, ap, sym, ◌∙◌, subst}
use native.Mathlib.Omega.{arith}
use lib.Dec.{T, eqb}
use lib.ListN.{length, length-map}
use Rattle.network.specs.Network.{Arc, Link, size, arcs_among, arcs_of, linked}
use Rattle.network.specs.Theorems.Network.{SoundLink, SoundLinks, LinkOf}
use Rattle.network.proofs.Below.{get_d_below}
use Rattle.network.proofs.Lists.{pairwise_over}
use Rattle.network.proofs.Linked.{linked_well_formed, linked_exact}
use Rattle.network.proofs.SoundLinks.{sound_links_exact}
use Rattle.topology_types.specs.declared.Topology.{Topology}
use Rattle.topology_types.specs.Topology.{contents, seen, network_in, network_of}
use Rattle.topology_sound.specs.Sound.{sound}
use Rattle.topology_sound.proofs.Sound.{routers_listed, sound_exact, sound_networks}
use Rattle.arcs.specs.Back.{link_back, network_back}
use Rattle.arcs.specs.Theorems.{BackExact}
use Rattle.arcs.proofs.Filled.{Next}
use Rattle.arcs.proofs.Links.{first_links, links_of}

-- exchanged twice, they are as they were
twice : (ls : List Link) → map link_back (map link_back ls) ≡ ls
unfolding link_back
twice ls = map-map link_back link_back ls ∙ map-id ls

alike : (p q : Bool) (a b c d : Arc) (xs ys : List Arc) → length xs ≡ length ys →
    length (cond p (a ∷ xs) (cond q (b ∷ xs) xs)) ≡ length (cond p (c ∷ ys) (cond q (d ∷ ys) ys))
alike true q a b c d xs ys h = omega arith
alike false true a b c d xs ys h = omega arith
alike false false a b c d xs ys h = h

pub as_many : (u number : ℕ) (ls : List Link) → length (arcs_among u number (map link_back ls)) ≡ length (arcs_among u number ls)
unfolding arcs_among link_back
as_many u number [] = refl
as_many u number (l ∷ ls) = alike (eqb l.first u) (eqb l.second u) _ _ _ _ _ _ (as_many u (suc number) ls)

-- what comes next after links comes next after them with costs exchanged
pub next_back : {routers : ℕ} {ls : List Link} {l : Link} {number : ℕ} → Next routers ls l number → Next routers (map link_back ls) (link_back l) number
unfolding link_back
next_back {ls} {l} w =
    record {
      limit = w.limit;
      long = length-map ls link_back ∙ w.long;
      first_in = w.first_in;
      second_in = w.second_in;
      apart = w.apart;
      few = λ u h.
          rw (← map-append link_back ls (l ∷ [])) (omega (arith, as_many u 0 (ls ++ (l ∷ [])), w.few u h));
    }

-- the arc that a link is for one end is, with costs exchanged, the arc of the other end that leads back
other_end : {ls : List Link} {u v cost link : ℕ} → LinkOf ls u (record { to = v; cost = cost; link = link }) →
    LinkOf (map link_back ls) v (record { to = u; cost = cost; link = link })
unfolding link_back
other_end w =
    record {
      before = map link_back w.before;
      link = link_back w.link;
      after = map link_back w.after;
      stands = ap (map link_back) w.stands ∙ map-append link_back w.before (w.link ∷ w.after);
      number = w.number ∙ sym (length-map w.before link_back);
      ends = ⊎_elim (λ (f, g, c). inr (sym g, sym f, c)) (λ (f, g, c). inl (sym g, sym f, c)) w.ends;
    }

sound_back : {ids : List ℕ} {ls : List Link} → SoundLinks ids ls → SoundLinks ids (map link_back ls)
unfolding link_back
sound_back {ids} {ls} s =
    record {
      ids-differ = s.ids-differ;
      each = λ l m.
          let (k, at, e) = Memᴰ.of_map link_back ls m in
          let g = s.each k at in
          subst (SoundLink (length ids)) e
          record {
            first_listed = g.first_listed;
            second_listed = g.second_listed;
            ends_differ = g.ends_differ;
            cost_least = g.back_least;
            cost_most = g.back_most;
            back_least = g.cost_least;
            back_most = g.cost_most;
          };
      pairs-differ = pairwise_over link_back s.pairs-differ;
    }

pub back_exact : BackExact
unfolding network_of network_in network_back linked size seen contents
back_exact t s =
    let ids = (contents t).ids in
    let ls = map seen (contents t).links in
    let listed : length ids ≡ t.routers = (sound_networks t s).routers in
    let sound = ((sound_exact t).0 s).linked in
    let here = linked_exact ids ls ((sound_links_exact _ _).1 sound) in
    let tested = (sound_links_exact _ _).1 (sound_back sound) in
    let there = linked_exact ids (map link_back ls) tested in
    record {
      well_formed = linked_well_formed ids (map link_back ls) tested;
      routers = listed;
      arcs = λ u v cost link h k. (
        λ m.
            (here.arcs v (omega arith) _).1
            (subst (λ (l : List Link). LinkOf l v (record { to = u; cost = cost; link = link })) (twice ls) (other_end ((there.arcs u (omega arith) _).0 m))),
        λ m. (there.arcs u (omega arith) _).1 (other_end ((here.arcs v (omega arith) _).0 m)),
      );
    }

-- the arcs of the network with costs exchanged, among the topology's links
pub arcs_back : (t : Topology) → T (sound t) → (u : ℕ) → u < t.routers → arcs_of (network_back t) u ≡ arcs_among u 0 (map link_back (first_links t t.links))
unfolding network_back linked arcs_of contents first_links
arcs_back t s u h =
    let listed : length (contents t).ids ≡ t.routers = routers_listed t (omega (arith, (sound_exact t).0 s)) in
    get_d_below (λ v. arcs_among v 0 (map link_back (first_links t t.links))) _ u [] (omega arith)

pub few_back : (t : Topology) → T (sound t) → (u : ℕ) → u < t.routers → length (arcs_of (network_back t) u) ≤ 16
few_back t s u h =
    let w = links_of t s in
    omega (arith, ap length (arcs_back t s u h), as_many u 0 (first_links t t.links), ap length (w.arcs_are u h), w.few u h)
