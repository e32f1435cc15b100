-- Standings go by the places that arcs lead to, and by their costs: they are the same over arcs that differ in the numbers of their links at most.
-- Assumes nothing.
use Prim.Native.Nat.{ℕ, ◌+◌}
use mathlib.Core.Bool.{Bool, ◌&&◌}
use mathlib.Core.List.{List, map}
use mathlib.Core.Path.{◌≡◌, refl, sym, ◌∙◌, ap}
use native.Mathlib.Omega.{arith}
use lib.Dec.{eqb}
use lib.ListN.{length, get_or}
use Rattle.network.specs.Lists.{keep}
use Rattle.network.specs.Network.{Arc}
use Rattle.arcs.specs.declared.Arc as own
use Rattle.arcs.specs.declared.Arcs.{Arcs}
use Rattle.arcs.specs.Inner.{arcs_at, leaving, returning}
use Rattle.distances.specs.Inner.{unnumbered, Alike}
use Rattle.distances.proofs.Alike.{arcs_alike, sees_out, passable_alike}
use Rattle.order_standings.specs.declared.Mode.{Mode}
use Rattle.order_standings.specs.Inner.{is_short, waits_for, AllPassable, FirstStandings, leading, serving, standing_after, Room, StandingsAfter}
use Rattle.order_standings.proofs.Keeping.{keep_same, keep_map}

-- as many pass a test that doesn't go by the number
counted : (seen : own.Arc → Arc) (f : Arc → Bool) → ((x : own.Arc) → f (seen x) ≡ f (seen (unnumbered x))) → (xs ys : List own.Arc) →
    map unnumbered xs ≡ map unnumbered ys → length (keep f (map seen xs)) ≡ length (keep f (map seen ys))
counted seen f same xs ys e = over xs ∙ ap (λ (l : List own.Arc). length (keep (λ x. f (seen x)) l)) e ∙ sym (over ys)
  where
    over : (l : List own.Arc) → length (keep f (map seen l)) ≡ length (keep (λ x. f (seen x)) (map unnumbered l))
    over l =
        keep_map f seen l ∙ ap length (keep_same (λ x. f (seen x)) (λ x. f (seen (unnumbered x))) l (λ x _. same x))
        ∙ sym (keep_map (λ x. f (seen x)) unnumbered l)

module _ (xs ys : List own.Arc) (e : map unnumbered xs ≡ map unnumbered ys) (ds : List ℕ) where
  short_alike : (here : ℕ) → length (keep (is_short ds here) (map leaving xs)) ≡ length (keep (is_short ds here) (map leaving ys))
  short_alike here = counted leaving (is_short ds here) (λ x. unfold is_short in refl) xs ys e

  module _ (u v : ℕ) where
    leading_alike : leading (map returning xs) v ≡ leading (map returning ys) v
    unfolding leading
    leading_alike = counted returning (λ b. eqb b.to v) (λ x. refl) xs ys e

    serving_alike : serving (map returning xs) ds u v ≡ serving (map returning ys) ds u v
    unfolding serving
    serving_alike = counted returning (λ b. eqb b.to v && eqb (b.cost + get_or ds u 0) (get_or ds v 0)) (λ x. refl) xs ys e

  module _ (keys : List ℕ) (m : Mode) (u : ℕ) where
    standing_alike : (v : ℕ) → standing_after keys (map returning xs) ds m u v ≡ standing_after keys (map returning ys) ds m u v
    unfolding standing_after
    standing_alike v = rw (leading_alike u v, serving_alike u v)

    pub room_alike : Room keys (map returning xs) ds m u → Room keys (map returning ys) ds m u
    room_alike room v h = omega (arith, standing_alike v, room v h)

    pub after_alike : {r : List ℕ} → StandingsAfter keys (map returning xs) ds m u r → StandingsAfter keys (map returning ys) ds m u r
    after_alike s = record { long = s.long; each = λ v h. s.each v h ∙ standing_alike v }

module _ {a b : Arcs} (same : Alike a b) {n : ℕ} {ds : List ℕ} where
  pub every_alike : AllPassable a n ds → AllPassable b n ds
  every_alike p =
      record {
        most = p.most;
        few = λ u h. rw same.counts at (p.few u h);
        each = λ u h. passable_alike leaving sees_out (arcs_at a u) (arcs_at b u) (arcs_alike same u) (p.each u h);
      }

  pub first_alike : {lower keys : List ℕ} {m : Mode} → FirstStandings b ds lower m n keys → FirstStandings a ds lower m n keys
  first_alike {m = m} w =
      record {
        long = w.long;
        each = λ u h.
            omega (arith, w.each u h, ap (waits_for m) (short_alike (arcs_at a u) (arcs_at b u) (arcs_alike same u) ds (get_or ds u 0)));
        past = w.past;
      }
