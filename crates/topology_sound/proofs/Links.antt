-- Links of the struct, tested as links of a network: each one sound, and no pair linked twice.
-- Assumes nothing.
use Prim.Native.Nat.{ℕ}
use mathlib.Core.Bool.{Bool, true, false, not}
use mathlib.Core.List.{List, [], ◌∷◌, map, map-append}
use mathlib.Core.Path.{◌≡◌, refl}
use Rattle.network.specs.Lists.{every, any}
use Rattle.network.specs.Network as network
use Rattle.network.specs.Network.{sound_link, same_pair, pairs_differ}
use Rattle.network.specs.Theorems.Network.{SoundLink}
use Rattle.network.proofs.Tests.{as_true, as_false}
use Rattle.network.proofs.SoundLinks.{link_fact}
use Rattle.topology_types.specs.declared.Link.{Link}
use Rattle.topology_types.specs.Topology.{seen}
use Rattle.topology_types.proofs.Prefix.{every_more, pairs_more}
use Rattle.topology_sound.proofs.Turns.{Growing}

abbrev pub links_sound : ℕ → List Link → Bool
links_sound n ls = every (sound_link n) (map seen ls)

pub sound_grow : (n : ℕ) → Growing (links_sound n) (λ ls l. sound_link n (seen l))
sound_grow n = record { none = refl; more = λ ls l. rw (map-append seen ls (l ∷ [])) (every_more (sound_link n) (map seen ls) (seen l)) }

abbrev pub pairs_apart : List Link → Bool
pairs_apart ls = pairs_differ (map seen ls)

pub pairs_grow : Growing pairs_apart (λ ls l. not (any (same_pair (seen l)) (map seen ls)))
unfolding pairs_differ
pairs_grow = record { none = refl; more = λ ls l. rw (map-append seen ls (l ∷ [])) (pairs_more (map seen ls) (seen l)) }

module _ (n : ℕ) (l : network.Link) where
  pub sound_passes : SoundLink n l → sound_link n l ≡ true
  sound_passes s = as_true (sound_link n l) ((link_fact n l).1 s)

  pub unsound_fails : (SoundLink n l → ⊥) → sound_link n l ≡ false
  unsound_fails no' = as_false (sound_link n l) (λ t. no' ((link_fact n l).0 t))
