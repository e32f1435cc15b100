-- What is said of the first n elements of an array is said of the slice of them, and the other way round.
-- Assumes nothing.
use Prim.Native.Nat.{ℕ, ◌≤◌, ◌<◌}
use mathlib.Core.Bool.{Bool}
use mathlib.Core.List.{List, map}
use mathlib.Core.Path.{◌≡◌, sym, ◌∙◌, ap}
use lib.Dec.{ltb}
use lib.ListN.{length, get_or, take}
use lib.Seq.{length-take-le, get_or-take, ext_get_or}
use Rattle.network.specs.Lists.{below, keep}
use Rattle.network.proofs.Below.{below_lt, get_d_below, length_map_below}
use Rattle.order_standings.specs.Inner.{Lower, Apart, Inverse, Highest}
use Rattle.order_standings.proofs.Keeping.{keep_same, keep_map}

-- how many pass a test, by their places
pub kept_by_place : (f : ℕ → Bool) (xs : List ℕ) → length (keep f xs) ≡ length (keep (λ v. f (get_or xs v 0)) (below (length xs)))
kept_by_place f xs = ap (λ (l : List ℕ). length (keep f l)) whole ∙ keep_map f (λ v. get_or xs v 0) (below (length xs))
  where
    whole : xs ≡ map (λ v. get_or xs v 0) (below (length xs))
    whole =
        ext_get_or 0 xs (map (λ v. get_or xs v 0) (below (length xs))) (sym (length_map_below (λ v. get_or xs v 0) (length xs)))
        (λ i h. sym (get_d_below (λ v. get_or xs v 0) (length xs) i 0 h))

module _ (n : ℕ) (xs : List ℕ) (h : n ≤ length xs) where
  at_part : (u : ℕ) → u < n → get_or (take n xs) u 0 ≡ get_or xs u 0
  at_part u k = get_or-take n xs u 0 k

  pub kept_part : (f : ℕ → Bool) → length (keep f (take n xs)) ≡ length (keep (λ v. f (get_or xs v 0)) (below n))
  kept_part f =
      (rw (length-take-le n xs h) at (kept_by_place f (take n xs)))
      ∙ ap length (keep_same (λ v. f (get_or (take n xs) v 0)) (λ v. f (get_or xs v 0)) (below n) (λ v b. rw (at_part v (below_lt n b))))

  pub lower_whole : {lower : List ℕ} → Lower (take n xs) (length (take n xs)) lower → Lower xs n lower
  lower_whole l =
      let k = rw (length-take-le n xs h) at l in
      record {
        long = k.long;
        each = λ u m.
            k.each u m
            ∙ ap length
            (keep_same (λ v. ltb (get_or (take n xs) v 0) (get_or (take n xs) u 0)) (λ v. ltb (get_or xs v 0) (get_or xs u 0)) (below n)
            (λ v b. rw (at_part v (below_lt n b), at_part u m)));
      }

  pub apart_part : Apart xs n → Apart (take n xs) (length (take n xs))
  apart_part a = rw (length-take-le n xs h)
      record {
        most = a.most;
        small = λ u k. rw (at_part u k) (a.small u k);
        differ = λ u v k l e. a.differ u v k l (sym (at_part u k) ∙ e ∙ at_part v l);
      }

  pub inverse_whole : {places : List ℕ} → Inverse (take n xs) (length (take n xs)) places → Inverse xs n places
  inverse_whole {places} i =
      let j = rw (length-take-le n xs h) at i in
      record { long = j.long; each = λ u k. rw (at_part u k) at (j.each u k) }

  pub highest_whole : {best : ℕ} → Highest (take n xs) (length (take n xs)) best → Highest xs n best
  highest_whole {best} t =
      let s = rw (length-take-le n xs h) at t in
      let (u, k, e) = s.one in
      record { one = (u, k, sym (at_part u k) ∙ e); most = λ v l. rw (at_part v l) at (s.most v l) }
