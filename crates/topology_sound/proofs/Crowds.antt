-- A table of how many neighbours the links so far give to each place, none of them more than 16: a link more adds one at each of its ends.
-- Assumes nothing.
use Prim.Native.Nat.{ℕ, ◌+◌, ◌-◌, ◌≤◌, ◌<◌}
use mathlib.Core.Bool.{Bool, true, false, cond}
use mathlib.Core.List.{List, [], ◌∷◌, ◌++◌, map, map-append}
use mathlib.Core.Logic.{◌≢◌, ◌⊎◌}
use mathlib.Core.Path.{◌≡◌, refl, sym, ap, ◌∙◌}
use native.Mathlib.Omega.{arith}
use borrow.Author.Tests.{eqb-true, eqb-false}
use lib.Dec.{eqb, leb→le, le→leb}
use lib.ListN.{length, get_or, set, take, drop, replicate, length-set, length-replicate, get_or-replicate}
use lib.Seq.{get_or-set_same, get_or-set_other, length-take-le, take-add}
use Rattle.network.specs.Lists.{below}
use Rattle.network.specs.Network as network
use Rattle.network.specs.Network.{arcs_among, arcs_of}
use Rattle.network.proofs.Tests.{as_true, as_false}
use Rattle.network.proofs.Lists.{every_all, all_every}
use Rattle.network.proofs.Below.{mem_below, below_lt}
use Rattle.topology_types.specs.declared.Link.{Link}
use Rattle.topology_types.specs.declared.Topology.{Topology}
use Rattle.topology_types.specs.Topology.{contents, seen, network_of}
use Rattle.topology_types.proofs.Prefix.{map_more}
use Rattle.topology_types.proofs.Arcs.{ending, arcs_more, arcs_stay, ends_at, arcs_listed}
use Rattle.topology_sound.specs.Sound.{uncrowded}

pub record Tallied (count : List ℕ) (ls : List network.Link) : Type 0 where
  pub long : length count ≡ 64
  pub at : (u : ℕ) → u < 64 → get_or count u 0 ≡ length (arcs_among u 0 ls)
  pub most : (u : ℕ) → u < 64 → get_or count u 0 ≤ 16

pub tallied_none : Tallied (replicate 64 0) []
unfolding arcs_among
tallied_none = record {
  long = length-replicate {A = ℕ} 64 0;
  at = λ u h. get_or-replicate {A = ℕ} 64 u 0 0 h;
  most = λ u h. omega (arith, get_or-replicate {A = ℕ} 64 u 0 0 h);
}

-- one more at both ends of a link
abbrev once : List ℕ → ℕ → List ℕ
once count a = set count a (get_or count a 0 + 1)

abbrev pub twice : List ℕ → ℕ → ℕ → List ℕ
twice count a b = set (once count a) b (get_or count b 0 + 1)

module _ {count : List ℕ} {ls : List network.Link} (w : Tallied count ls) (l : network.Link) {a b : ℕ} (f : a ≡ l.first) (s : b ≡ l.second)
    (ha : a < 64) (hb : b < 64) (apart : a ≢ b) (ra : get_or count a 0 < 16) (rb : get_or count b 0 < 16) where
  once_long : length (once count a) ≡ 64
  once_long = length-set count a (get_or count a 0 + 1) ∙ w.long

  step : (u : ℕ) → u < 64 → (p q : Bool) → eqb a u ≡ p → eqb b u ≡ q →
      (get_or (twice count a b) u 0 ≡ get_or count u 0 + cond p 1 (cond q 1 0)) × (get_or (twice count a b) u 0 ≤ 16)
  step u h true q e e' =
      let v = get_or-set_other (once count a) b a (get_or count b 0 + 1) 0 apart in
      let v' = get_or-set_same count a (get_or count a 0 + 1) 0 (omega (arith, w.long)) in
      rw (← eqb-true a u e) (omega (arith, v, v'), omega (arith, v, v'))
  step u h false true e e' =
      let v = get_or-set_same (once count a) b (get_or count b 0 + 1) 0 (omega (arith, once_long)) in
      rw (← eqb-true b u e') (v, omega (arith, v))
  step u h false false e e' =
      let v = get_or-set_other (once count a) b u (get_or count b 0 + 1) 0 (λ q. eqb-false b u e' (sym q)) in
      let v' = get_or-set_other count a u (get_or count a 0 + 1) 0 (λ q. eqb-false a u e (sym q)) in
      (omega (arith, v, v'), omega (arith, v, v', w.most u h))

  pub tallied_more : Tallied (twice count a b) (ls ++ (l ∷ []))
  unfolding ending
  tallied_more = record {
    long = length-set (once count a) b (get_or count b 0 + 1) ∙ once_long;
    at = λ u h. (step u h _ _ refl refl).0 ∙ rw (arcs_more u 0 ls l, w.at u h, f, s);
    most = λ u h. (step u h _ _ refl refl).1;
  }

-- further links take none away
arcs_grow : (u : ℕ) (ls : List Link) (i n : ℕ) → i ≤ n → length (arcs_among u 0 (map seen (take i ls))) ≤ length (arcs_among u 0 (map seen (take n ls)))
arcs_grow u ls i n h =
    let e : n ≡ i + (n - i) = omega arith in
    rw (e, take-add i (n - i) ls, map-append seen (take i ls) (take (n - i) (drop i ls))) (arcs_stay u _ _)

module _ (t : Topology) (held : t.routers ≤ length t.id) where
  arcs_at : (u : ℕ) → u < t.routers → arcs_of (network_of t) u ≡ arcs_among u 0 (map seen (take t.links t.link))
  unfolding network_of contents
  arcs_at u h = arcs_listed (contents t) u (omega (arith, length-take-le t.routers t.id held))

  pub all_uncrowded : ((u : ℕ) → u < t.routers → length (arcs_among u 0 (map seen (take t.links t.link))) ≤ 16) → true ≡ uncrowded t
  unfolding uncrowded
  all_uncrowded h =
      sym
      (as_true _
      (all_every _ (below t.routers)
      (λ u m. let k = below_lt t.routers m in le→leb (length (arcs_of (network_of t) u)) 16 (rw (arcs_at u k) (h u k)))))

  -- a router that has 16 neighbours already
  pub crowded : (u i : ℕ) (z : Link) → u < t.routers → i < t.links → t.links ≤ length t.link →
      ((seen (get_or t.link i z)).first ≡ u) ⊎ ((seen (get_or t.link i z)).second ≡ u) →
      16 ≤ length (arcs_among u 0 (map seen (take i t.link))) → false ≡ uncrowded t
  unfolding uncrowded
  crowded u i z h k long ends many =
      let e = ap length (arcs_at u h) in
      let more = ap (λ ls. length (arcs_among u 0 ls)) (map_more seen t.link i z (omega arith)) in
      sym
      (as_false _
      (λ s. let fits = leb→le (length (arcs_of (network_of t) u)) 16 (every_all _ (below t.routers) s u (mem_below h)) in
      omega (
        arith,
        e,
        more,
        ends_at u (seen (get_or t.link i z)) ends,
        arcs_more u 0 (map seen (take i t.link)) (seen (get_or t.link i z)),
        arcs_grow u t.link (i + 1) t.links (omega arith),
      )))
