-- How long the stream of a topology is: two bytes for K, five to a router and to a link, five more to a link whose costs differ, and the end.
-- Assumes nothing.
use Prim.Native.Nat.{ℕ, ◌+◌, ◌*◌, ◌≤◌}
use mathlib.Core.Bool.{Bool, true, false, cond, not}
use mathlib.Core.List.{List, [], ◌∷◌}
use mathlib.Core.Path.{◌≡◌, refl}
use native.Mathlib.Omega.{arith}
use lib.Dec.{eqb}
use lib.ListN.{length, take, length-append}
use lib.Seq.{length-take-le}
use Rattle.network.specs.Lists.{keep}
use Rattle.topology_types.specs.declared.Link.{Link}
use Rattle.topology_types.specs.declared.Topology.{Topology}
use Rattle.topology_types.specs.Topology.{contents}
use Rattle.topology.specs.Written.{joined_over, written, limit_bytes, router_bytes, link_bytes}
use Rattle.topology.specs.Inner.{differing, stream_of}
use Rattle.topology.proofs.Joined.{router_five, joined_length}
use Rattle.topology.proofs.LinkBytes.{link_long}

pub links_long : (ls : List Link) → length (joined_over link_bytes ls) ≡ 5 * length ls + 5 * length (keep differing ls)
unfolding joined_over
links_long [] = refl
links_long (l ∷ ls) = simp (length-append, link_long, links_long ls) (either (eqb l.cost l.back))
  where
    either : (b : Bool) → cond b 5 10 + (5 * length ls + 5 * length (keep differing ls))
        ≡ 5 * length (l ∷ ls) + 5 * length (cond (not b) (l ∷ keep differing ls) (keep differing ls))
    either true = omega arith
    either false = omega arith

pub links_most : (ls : List Link) → length (joined_over link_bytes ls) ≤ 10 * length ls
unfolding joined_over
links_most [] = omega arith
links_most (l ∷ ls) = simp (length-append, link_long) (either (eqb l.cost l.back) (links_most ls))
  where
    either : (b : Bool) → length (joined_over link_bytes ls) ≤ 10 * length ls → cond b 5 10 + length (joined_over link_bytes ls) ≤ 10 * length (l ∷ ls)
    either true h = omega arith
    either false h = omega arith

pub stream_length : (limit : ℕ) (ids : List ℕ) (links : List Link) →
    length (stream_of limit ids links) ≡ 2 + 5 * length ids + length (joined_over link_bytes links) + 1
unfolding limit_bytes
stream_length limit ids links = simp (length-append, joined_length router_bytes router_five ids) (omega arith)

module _ (t : Topology) (ids : t.routers ≤ length t.id) (links : t.links ≤ length t.link) where
  -- by the bytes of the links
  pub written_parts : length (written t) ≡ 2 + 5 * t.routers + length (joined_over link_bytes (contents t).links) + 1
  unfolding written contents limit_bytes
  written_parts =
      simp (length-append, joined_length router_bytes router_five, length-take-le t.routers t.id ids) (omega arith)

  pub written_length : length (written t) ≡ 2 + 5 * t.routers + 5 * t.links + 5 * length (keep differing (take t.links t.link)) + 1
  unfolding contents
  written_length = rw (written_parts, links_long, length-take-le t.links t.link links) (omega arith)

  pub written_most : length (written t) ≤ 3 + 5 * t.routers + 10 * t.links
  unfolding contents
  written_most = omega (arith, written_parts, links_most (take t.links t.link), length-take-le t.links t.link links)
