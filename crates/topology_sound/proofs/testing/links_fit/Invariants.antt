-- The links before this one are sound and no two link one pair; tables have their pairs and each place's neighbours, at most 16.
-- Assumes nothing.
use Rattle.std.proofs.Common.{take, map}
use Rattle.topology_types.specs.Topology.{seen}
use Rattle.topology_sound.proofs.Turns.{Passing}
use Rattle.topology_sound.proofs.Links.{links_sound, pairs_apart}
use Rattle.topology_sound.proofs.Pairs.{Tabled}
use Rattle.topology_sound.proofs.Crowds.{Tallied}
use Rattle.topology_sound.proofs.testing.links_fit.Given as goal

abbrev pub invariant-loop-l : goal.invariant-loop-l
invariant-loop-l l =
    let ls = map seen (take l.l-index l.fn.t.link) in
    Passing (links_sound l.n) l.fn.t.link l.fn.t.links l.l-index × Passing pairs_apart l.fn.t.link l.fn.t.links l.l-index × Tabled l.linked ls × Tallied l.count ls
