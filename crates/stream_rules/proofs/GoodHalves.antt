-- Halves that passed their tests: each is sound, none is there twice, and not too many are there or leave a place. One more that passes keeps it so. The
-- links among them are as sound as their halves, no two join one pair, since they would share a half, and none is too many.
-- Assumes nothing.
use Prim.Native.Nat.{ℕ, suc, ◌+◌, ◌*◌, ◌≤◌, ◌<◌}
use mathlib.Core.Bool.{Bool, true, false, cond}
use mathlib.Core.List.Memᴰ
use mathlib.Core.List.{List, [], ◌∷◌, map, Memᴰ}
use mathlib.Core.Logic.{◌≢◌, ⊎_elim}
use mathlib.Core.Path.{◌≡◌, refl, sym, ap, subst}
use native.Mathlib.Decide.{ℕ_discrete}
use native.Mathlib.Omega.{arith}
use borrow.Author.Tests.{eq-eqb, ne_eqb}
use lib.Dec.{T, eqb}
use lib.ListN.{length}
use Rattle.network.specs.Lists.{Pairwise, nothing, then}
use Rattle.network.specs.Network as network
use Rattle.network.specs.Network.{Arc, arcs_among, sound_link}
use Rattle.network.specs.Theorems.Network.{SoundLink, SamePair}
use Rattle.network.proofs.Tests.{as_true}
use Rattle.network.proofs.SoundLinks.{link_fact}
use Rattle.topology_types.specs.declared.Half.{Half}
use Rattle.topology_types.specs.declared.Link.{Link}
use Rattle.topology_types.specs.Topology.{seen}
use Rattle.stream_rules.specs.Halves.{first_half, second_half, link_halves, same_half, leaves}
use Rattle.stream_rules.proofs.Halves.{total_most, total_part, Adds}
use Rattle.stream_rules.specs.Inner.{one_if, total}
use Rattle.stream_rules.proofs.Opposite.{Once, once_more}

-- a half as a link of its cost both ways, so that a sound half is a sound link
abbrev pub as_link : Half → network.Link
as_link k = record { first = k.from.0; second = k.to.0; cost = k.cost; back = k.cost }

-- 1 for a half that is not sound among n routers
unfoldable pub unsound : ℕ → Half → ℕ
unsound n k = cond (sound_link n (as_link k)) 0 1

pub record GoodHalves (n : ℕ) (hs : List Half) : Type 0 where
  pub each : total (unsound n) hs ≡ 0
  pub once : Once hs
  pub many : total (λ k. 1) hs ≤ 512
  pub leaving : (u : ℕ) → total (one_if (leaves u)) hs ≤ 16

pub good_none : (n : ℕ) → GoodHalves n []
unfolding total
good_none n = record { each = refl; once = λ g. omega arith; many = omega arith; leaving = λ u. omega arith }

module _ (n : ℕ) (k : Half) where
  sound_zero : SoundLink n (as_link k) → unsound n k ≡ 0
  unfolding unsound
  sound_zero s = rw (as_true (sound_link n (as_link k)) ((link_fact n (as_link k)).1 s))

  zero_sound : unsound n k ≡ 0 → SoundLink n (as_link k)
  unfolding unsound
  zero_sound e = (link_fact n (as_link k)).0 (go (sound_link n (as_link k)) e)
    where
      go : (b : Bool) → cond {A = ℕ} b 0 1 ≡ 0 → T b
      go true e = tt
      go false e = absurd (omega (arith, e))

  at_most_one : unsound n k ≤ 1
  unfolding unsound
  at_most_one = go (sound_link n (as_link k))
    where
      go : (b : Bool) → cond {A = ℕ} b 0 1 ≤ 1
      go true = omega arith
      go false = omega arith

pub half_sound : (n : ℕ) (hs : List Half) → total (unsound n) hs ≡ 0 → (k : Half) → Memᴰ k hs → SoundLink n (as_link k)
half_sound n hs e k m = zero_sound n k (omega (arith, total_part (unsound n) hs m))

-- more routers leave a half sound
pub sound_among_more : (n m : ℕ) (hs : List Half) → n ≤ m → total (unsound n) hs ≡ 0 → total (unsound m) hs ≡ 0
sound_among_more n m hs h e = omega (arith, total_most (unsound m) (unsound n) hs least)
  where
    least : (k : Half) → unsound m k ≤ unsound n k
    least k = go (ℕ_discrete (unsound n k) 0)
      where
        go : Dec (unsound n k ≡ 0) → unsound m k ≤ unsound n k
        go (yes z) =
            let s = zero_sound n k z in
            omega (
              arith,
              sound_zero m k
                  record {
                    first_listed = omega (arith, s.first_listed);
                    second_listed = omega (arith, s.second_listed);
                    ends_differ = s.ends_differ;
                    cost_least = s.cost_least;
                    cost_most = s.cost_most;
                    back_least = s.back_least;
                    back_most = s.back_most;
                  },
            )
        go (no z) = omega (arith, at_most_one m k)

-- what a test gives of one half
pub leaves_it : (k : Half) → one_if (leaves k.from.0) k ≡ 1
unfolding one_if leaves
leaves_it k = rw (eq-eqb k.from.0 k.from.0 refl)

pub leaves_other : (u : ℕ) (k : Half) → k.from.0 ≢ u → one_if (leaves u) k ≡ 0
unfolding one_if leaves
leaves_other u k e = rw (ne_eqb k.from.0 u e)

pub same_one : (g k : Half) → g.from.0 ≡ k.from.0 → g.to.0 ≡ k.to.0 → one_if (same_half g) k ≡ 1
unfolding one_if same_half
same_one g k e f = rw (eq-eqb _ _ e, eq-eqb _ _ f)

pub same_none : (g k : Half) → g.from.0 ≢ k.from.0 → one_if (same_half g) k ≡ 0
unfolding one_if same_half
same_none g k e = rw (ne_eqb _ _ e)

pub good_more : (n : ℕ) (hs : List Half) (h : Half) (more : List Half) → GoodHalves n hs → Adds hs h more → SoundLink n (as_link h) →
    total (one_if (same_half h)) hs ≡ 0 → total (λ k. 1) hs < 512 → total (one_if (leaves h.from.0)) hs < 16 → GoodHalves n more
good_more n hs h more g adds sound none room few =
    record {
      each = omega (arith, adds (unsound n), g.each, sound_zero n h sound);
      once = once_more hs more h g.once none adds;
      many = omega (arith, adds (λ k. 1));
      leaving = λ u. left u (ℕ_discrete h.from.0 u);
    }
  where
    left : (u : ℕ) → Dec (h.from.0 ≡ u) → total (one_if (leaves u)) more ≤ 16
    left u (yes e) = rw (← e) (omega (arith, adds (one_if (leaves h.from.0)), leaves_it h))
    left u (no e) = omega (arith, adds (one_if (leaves u)), leaves_other u h e, g.leaving u)

-- the links whose halves these are
pub links_many : (ls : List Link) → total (λ k. 1) (link_halves ls) ≡ 2 * length ls
unfolding total link_halves
links_many [] = refl
links_many (l ∷ ls) = omega (arith, links_many ls)

pub halves-in : (ls : List Link) {l : Link} → Memᴰ l ls → Memᴰ (first_half l) (link_halves ls) × Memᴰ (second_half l) (link_halves ls)
unfolding link_halves
halves-in [] {l = l} x' = elim x' [ ]
halves-in (k ∷ ls) (Memᴰ.head e) = (Memᴰ.head (ap first_half e), Memᴰ.tail (Memᴰ.head (ap second_half e)))
halves-in (k ∷ ls) (Memᴰ.tail m) = let (f, s) = halves-in ls m in (Memᴰ.tail (Memᴰ.tail f), Memᴰ.tail (Memᴰ.tail s))

pub pairs_apart : (ls : List Link) → Once (link_halves ls) → Pairwise (λ l k. SamePair l k → ⊥) (map seen ls)
unfolding link_halves total seen first_half second_half
pairs_apart [] once = nothing
pairs_apart (l ∷ ls) once =
    then
    (λ k m same.
    let (link, listed, e) = Memᴰ.of_map seen ls m in
    let (f, s) = halves-in ls listed in
    let first = same_one (first_half l) (first_half l) refl refl in
    let most = once (first_half l) in
    let test = one_if (same_half (first_half l)) in
    ⊎_elim (λ (d, b). omega (arith, most, first, total_part test (link_halves ls) f, same_one (first_half l) (first_half link) d b))
    (λ (d, b). omega (arith, most, first, total_part test (link_halves ls) s, same_one (first_half l) (second_half link) d b))
    (subst (SamePair (seen l)) (sym e) same))
    (pairs_apart ls (λ g. omega (arith, once g)))

pub arcs_few : (u number : ℕ) (ls : List Link) → length (arcs_among u number (map seen ls)) ≤ total (one_if (leaves u)) (link_halves ls)
unfolding link_halves total seen first_half second_half arcs_among one_if leaves
arcs_few u number [] = omega arith
arcs_few u number (l ∷ ls) = go (eqb l.first.0 u) (eqb l.second.0 u) _ _ _ _ (arcs_few u (suc number) ls)
  where
    go : (p q : Bool) (a b : Arc) (xs : List Arc) (t : ℕ) → length xs ≤ t →
        length (cond p (a ∷ xs) (cond q (b ∷ xs) xs)) ≤ cond p 1 0 + (cond q 1 0 + t)
    go true true a b xs t h = omega arith
    go true false a b xs t h = omega arith
    go false true a b xs t h = omega arith
    go false false a b xs t h = omega arith

-- of the links of good halves, where there may be more halves
module _ (n : ℕ) (ls : List Link) (each : total (unsound n) (link_halves ls) ≡ 0) where
  pub links_sound : (l : network.Link) → Memᴰ l (map seen ls) → SoundLink n l
  unfolding seen first_half second_half
  links_sound l m =
      let (link, listed, e) = Memᴰ.of_map seen ls m in
      let (f, s) = halves-in ls listed in
      let first = half_sound n (link_halves ls) each (first_half link) f in
      let second = half_sound n (link_halves ls) each (second_half link) s in
      subst (SoundLink n) e
      record {
        first_listed = first.first_listed;
        second_listed = first.second_listed;
        ends_differ = first.ends_differ;
        cost_least = first.cost_least;
        cost_most = first.cost_most;
        back_least = second.cost_least;
        back_most = second.cost_most;
      }
