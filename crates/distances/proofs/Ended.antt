-- Once all routers are settled no path costs less than what is held, which is then the distance.
-- Assumes nothing.
use Prim.Native.Nat.{ℕ, zero, suc, ◌≤◌, ◌<◌}
use mathlib.Core.List.{List, [], ◌∷◌}
use mathlib.Core.Logic.{⊎_elim}
use mathlib.Core.Path.{◌≡◌, refl, sym, ◌∙◌}
use native.Mathlib.Decide.{dec_lt}
use native.Mathlib.Nat.{le_antisymm}
use native.Mathlib.Omega.{arith}
use lib.ListN.{length, get_or, take}
use lib.Seq.{length-take-le, get_or-take, ext_get_or}
use Rattle.network.specs.Network.{Network}
use Rattle.network.specs.Distance.{PathTo, arrived, along, path_cost, absent, distance_in, distances, distance}
use Rattle.distances.specs.Inner.{Settled, Closed}
use Rattle.distances.proofs.Unsettled.{none_open}
use Rattle.distances.proofs.Ways.{Given, exact, absent_is, turned_round, by_place}
use Rattle.distances.proofs.Run.{Run}
use Rattle.distances.proofs.Turn.{near}

-- what stands in a list does not hang on what stands past its end
pub get_d_within : (l : List ℕ) (v y z : ℕ) → v < length l → get_or l v y ≡ get_or l v z
get_d_within [] v y z h = absurd (omega arith)
get_d_within (x ∷ l) zero y z h = refl
get_d_within (x ∷ l) (suc v) y z h = get_d_within l v y z (omega arith)

module _ (m other : Network) (n d : ℕ) (given : Given m other n d) (k : ℕ) (ds marks : List ℕ) (run : Run m other d n k ds marks) (all : k ≡ n) where
  most : n ≤ 64
  most = given.within.most

  closed : (v : ℕ) → v < n → Closed marks v
  closed v h =
      ⊎_elim (λ o. absurd (none_open marks n (omega (arith, run.left)) v h o)) (λ c. c) (run.marked v h)

  no_less : {u : ℕ} (p : PathTo m d u) → u < n → get_or ds u 0 ≤ path_cost p
  unfolding path_cost
  no_less (arrived e) h = rw e (omega (arith, run.home))
  no_less {u} (along b at p) h =
      let (place, back) = turned_round m other n d given u h b at in
      omega (arith, no_less p place, run.relaxed b.to place (closed b.to place) _ back)

  is_distance : (u : ℕ) → u < n → get_or ds u 0 ≡ distance m d u
  is_distance u h = le_antisymm (step (dec_lt (distance m d u) (absent m))) (run.never u h)
    where
      step : Dec (distance m d u < absent m) → get_or ds u 0 ≤ distance m d u
      step (yes l) = let (p, e) = (exact m other n d given u).attained l in omega (arith, no_less p h)
      step (no l) = omega (arith, run.most u (omega (arith, most)), absent_is m other n d given)

  pub ended : Settled m d ds
  unfolding distance distance_in
  ended =
      let sized = given.sized in
      let long = run.long in
      let first : length (take n ds) ≡ n = length-take-le n ds (omega (arith, most)) in
      record {
        first =
            rw sized
            (ext_get_or (absent m) (take n ds) (distances m d) (first ∙ sym (by_place m other n d given ∙ sized))
            (λ v h. get_or-take n ds v (absent m) (omega arith) ∙ get_d_within ds v (absent m) 0 (omega (arith, most)) ∙ is_distance v (omega arith)));
        long = run.long;
        near = near m other n d given k ds marks run;
      }
