-- Paths gathered behind others and then more behind these are gathered at once: the counts add up, and texts put one behind the other are one text.
-- Assumes nothing.
use Prim.Native.Nat.{ℕ, ◌+◌, ◌-◌, ◌*◌, ◌≤◌, ◌<◌}
use mathlib.Core.List.{List, [], ◌∷◌, ◌++◌, map, append-nil}
use mathlib.Core.Path.{◌≡◌, refl, sym, ap, subst, ◌∙◌}
use native.Mathlib.Nat.{add-zero}
use native.Mathlib.Numerals.{add-one}
use native.Mathlib.Omega.{arith}
use lib.ListN.{length, set, take, drop}
use lib.Seq.{sets}
use Rattle.network.specs.Lists.{counted}
use Rattle.network.proofs.Counted.{counted_map, counts_exact}
use Rattle.topology.specs.Written.{joined_over}
use Rattle.topology.proofs.Joined.{joined_behind}
use Rattle.text.proofs.Stores.{behind, in_place}
use Rattle.paths.specs.Inner.{PathsGathered}

-- a path that goes by u next, put over a route, is the rest of it put over the route that goes by u
joined_on : (route : List ℕ) (moves u : ℕ) (ps : List (List ℕ)) →
    joined_over (sets route moves) (map (λ p. u ∷ p) ps) ≡ joined_over (sets (set route moves u) (moves + 1)) ps
unfolding joined_over
joined_on route moves u [] = refl
joined_on route moves u (p ∷ ps) =
    rw (joined_on route moves u ps)
    (ap (λ (k : ℕ). sets (set route moves u) k p ++ joined_over (sets (set route moves u) (moves + 1)) ps) (sym (add-one moves)))

-- a count that has not stopped had not stopped before
fewer : {count : ℕ} (ps : List (List ℕ)) {r : ℕ} → r ≡ counted 512 count ps → r ≤ 512 → count ≤ 512
unfolding counted
fewer ps e few = omega arith

module _ {route : List ℕ} {moves : ℕ} where
  -- no path
  pub none : {b : List ℕ} {count : ℕ} → count ≤ 513 → PathsGathered route moves b count [] count b
  unfolding counted joined_over
  none {b} {count} few = record { total = omega arith; put = λ h. record { after = sym (add-zero (64 * count)); stored = refl } }

  -- a count that has stopped
  pub stopped : {b : List ℕ} {count : ℕ} {ps : List (List ℕ)} → 512 < count → count ≤ 513 → PathsGathered route moves b count ps count b
  unfolding counted
  stopped beyond few = record { total = omega arith; put = λ h. absurd (omega arith) }

  pub then : {b : List ℕ} {count : ℕ} {ps : List (List ℕ)} {m : ℕ} {b' : List ℕ} {qs : List (List ℕ)} {r : ℕ} {b'' : List ℕ} →
      PathsGathered route moves b count ps m b' → PathsGathered route moves b' m qs r b'' → PathsGathered route moves b count (ps ++ qs) r b''
  then {b} {count} {ps} {m} {b'} {qs} g h =
      record {
        total = h.total ∙ ap (λ (k : ℕ). counted 512 k qs) g.total ∙ sym ((counts_exact _ 512 ps).in-turn count qs);
        put = λ few. rw (joined_behind (sets route moves) ps qs) (behind (g.put (fewer qs h.total few)) (h.put few));
      }

  pub at_most : {b : List ℕ} {count : ℕ} {ps : List (List ℕ)} {r : ℕ} {b' : List ℕ} → PathsGathered route moves b count ps r b' → r ≤ 513
  unfolding counted
  at_most g = omega (arith, g.total)

  -- every path goes by u next
  pub onward : (u : ℕ) {b : List ℕ} {count : ℕ} {ps : List (List ℕ)} {r : ℕ} {b' : List ℕ} → PathsGathered (set route moves u) (moves + 1) b count ps r b' →
      PathsGathered route moves b count (map (λ p. u ∷ p) ps) r b'
  onward u {count} {ps} g =
      record {
        total = g.total ∙ sym (counted_map (λ p. u ∷ p) 512 count ps);
        put = λ few. rw (joined_on route moves u ps) (g.put few);
      }

-- as many bytes of a buffer with a path in their place
placed : (b path part : List ℕ) (at n : ℕ) → length path ≡ n → at + n ≤ length b → part ≡ path →
    take at b ++ (part ++ drop (at + n - at) (drop at b)) ≡ sets b at path
placed b path part at n long h e =
    subst (λ (n : ℕ). at + n ≤ length b → take at b ++ (part ++ drop (at + n - at) (drop at b)) ≡ sets b at path) long (λ h. in_place b path part at h e) h

-- one path more, put whole
pub one : {path b part : List ℕ} {count : ℕ} → length path ≡ 64 → count < 512 → 32768 ≤ length b → part ≡ path →
    PathsGathered path 64 b count ([] ∷ []) (count + 1) (take (64 * count) b ++ (part ++ drop (64 * count + 64 - 64 * count) (drop (64 * count) b)))
unfolding counted joined_over
one {path} {b} {part} {count} long few room e =
    record {
      total = omega arith;
      put = λ h. rw (append-nil path) (record { after = omega (arith, long); stored = placed b path part (64 * count) 64 long (omega arith) e });
    }

-- one path more than there may be
pub full : {path b : List ℕ} {count : ℕ} → count ≤ 512 → 512 ≤ count → PathsGathered path 64 b count ([] ∷ []) 513 b
unfolding counted
full few most = record { total = omega arith; put = λ h. absurd (omega arith) }
