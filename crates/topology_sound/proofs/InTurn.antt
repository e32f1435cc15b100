-- The test for a sound topology, as the tests that are made in turn, each with those before it passed.
-- Assumes nothing.
use Prim.Native.Nat.{◌^◌}
use mathlib.Core.Bool.{Bool, true, ◌&&◌, and_assoc, and-true}
use mathlib.Core.List.{List}
use mathlib.Core.Path.{◌≡◌, sym, subst}
use native.Mathlib.Omega.{arith}
use borrow.Author.Tests.{eq-eqb}
use denote.Laws.{Is}
use lib.Dec.{T, eqb, leb, leb→le, lt→ltb}
use lib.ListN.{length, drop}
use lib.Seq.{length-take-le}
use mir.Val.{Val}
use Rattle.network.specs.Lists.{every, distinct}
use Rattle.network.specs.Network.{sound_links}
use Rattle.network.proofs.Tests.{as_true, both, three}
use Rattle.network.proofs.Lists.{all_every}
use Rattle.topology_types.specs.declared.Topology.{Topology}
use Rattle.topology_types.specs.Topology.{contents}
use Rattle.topology_types.specs.Inner.{CountsFit}
use Rattle.topology_types.specs.contracts.Topology.{the_row}
use Rattle.topology_types.proofs.Machine.{ids_length, links-length, id_fits}
use Rattle.topology_sound.specs.Sound.{within, in_limits_lem, well_linked, uncrowded, is_no_link, unused_zero, slotted, sound}
use Rattle.topology_sound.proofs.Links.{links_sound, pairs_apart}

-- what is within the limits has counts that fit
pub limits_counted : (t : Topology) → in_limits_lem t ≡ true → CountsFit t
unfolding in_limits_lem within
limits_counted t e =
    let (routers, links, limit) = three (leb 1 t.routers && leb t.routers 64) (leb t.links 256) _ (subst T (sym e) tt) in
    let (least, most) = both (leb 1 t.routers) (leb t.routers 64) routers in
    record { routers_fit = leb→le t.routers 64 most; links-fit = leb→le t.links 256 links }

-- what is left to test of a topology within the limits: its IDs, and so on from there
abbrev pub from_zeros : Topology → Bool
from_zeros t = every (eqb 0) (drop t.routers t.id) && every is_no_link (drop t.links t.link)

abbrev pub links-fit : Topology → Bool
links-fit t = links_sound t.routers (contents t).links && pairs_apart (contents t).links && uncrowded t

abbrev pub from_ids : Topology → Bool
from_ids t = distinct (contents t).ids && (links-fit t && from_zeros t)

module _ (t : Topology) (vs : List Val) (good : Is the_row t vs) where
  slots : slotted t ≡ true
  unfolding slotted
  slots =
      rw (eq-eqb (length t.id) 64 (ids_length t vs good), eq-eqb (length t.link) 256 (links-length t vs good))
      (as_true _ (all_every _ t.id (λ i m. lt→ltb i (2 ^ 32) (id_fits t vs good i m))))

  listed : CountsFit t → length (contents t).ids ≡ t.routers
  unfolding contents
  listed counted = length-take-le t.routers t.id (omega (arith, ids_length t vs good, counted.routers_fit))

  pub past_limits : in_limits_lem t ≡ true → sound t ≡ from_ids t
  unfolding sound well_linked sound_links unused_zero
  past_limits e = rw (listed (limits_counted t e), slots, e) (simp (and_assoc, and-true))
