-- A metric of two bytes is below 65,536, so that the lowest metric to a neighbour is.
-- Assumes nothing.
use Prim.Native.Nat.{ℕ, ◌<◌}
use mathlib.Core.List.Memᴰ
use mathlib.Core.List.{List, Memᴰ}
use mathlib.Core.Option.{Option, none, some}
use mathlib.Core.Path.{◌≡◌, refl}
use native.Mathlib.Omega.{arith}
use lib.ListN.{get_or}
use Rattle.ospf_lsas.specs.Lsa.{RouterLink, links_in}
use Rattle.ospf_halves.specs.Neighbours.{all_of, point_to_point, lowest_to_lem, neighbours_of}
use Rattle.ospf_halves.specs.Theorems.{AllOf}
use Rattle.ospf_lsas.proofs.Links.{metrics}
use Rattle.ospf_lsas.proofs.Malformed.{links_of}
use Rattle.ospf_halves.proofs.Neighbours.{lowest_each}
use Rattle.ospf_halves.proofs.Halves.{neighbour_of, typed}

pub all-of : AllOf
unfolding all_of
all-of = record { are-links = λ s ls r. rw (links_of s ls r); were_read = λ ls. refl; no_links = refl }

all_fit : (n : ℕ) (s : List ℕ) → ((i : ℕ) → get_or s i 0 < 256) → (l : RouterLink) → Memᴰ l (all_of (links_in n s)) → l.metric < 65536
unfolding all_of
all_fit n s bytes = cases (links_in n s) refl
  where
    cases : (o : Option (List RouterLink)) → links_in n s ≡ o → (l : RouterLink) → Memᴰ l (all_of o) → l.metric < 65536
    cases none e l m = absurd (Memᴰ.not-nil m)
    cases (some ls) e l m = metrics n s bytes ls e l m

module _ (id : ℕ) (ls : List RouterLink) (two-bytes : (l : RouterLink) → Memᴰ l ls → l.metric < 65536) where
  lower : Memᴰ id (neighbours_of ls) → lowest_to_lem id (point_to_point ls) < 65536
  lower m =
      let (l, n, t, e) = neighbour_of ls id m in
      omega (arith, lowest_each id (point_to_point ls) l (typed ls l n t) e, two-bytes l n)

pub neighbour_fits : (n : ℕ) (s : List ℕ) (id : ℕ) → ((i : ℕ) → get_or s i 0 < 256) → Memᴰ id (neighbours_of (all_of (links_in n s))) →
    lowest_to_lem id (point_to_point (all_of (links_in n s))) < 65536
neighbour_fits n s id bytes = lower id (all_of (links_in n s)) (all_fit n s bytes)
