-- The lines of the paths passed were put, and the others stand in what is left.
-- Assumes nothing.
use Rattle.std.proofs.Common.{length, drop, ◌≡◌, ◌*◌, ◌≤◌}
use Rattle.std.specs.Slice.Iter.{chunks_exact_rest, chunks_exact_size}
use Rattle.network.specs.Lists.{below}
use Rattle.listing_rules.proofs.InTurn.{SoFar}
use Rattle.paths_lines.specs.Lines.{path_line}
use Rattle.paths_lines.specs.Inner.{most_path_line, places_of, path_in}
use Rattle.paths_lines.proofs.printing.put_paths.Given as goal

abbrev pub invariant-loop-path : goal.invariant-loop-path
invariant-loop-path l = record {
  wide : chunks_exact_size l.path-iterator ≡ 64;
  rest : chunks_exact_rest l.path-iterator ≡ drop (64 * length l.yielded) l.paths;
  whole : 64 * length l.yielded ≤ length l.paths;
  lines : SoFar (λ j. path_line l.destination.0 l.start.0 (places_of (path_in l.paths j))) most_path_line l.fn.page (below (length l.yielded)) (length l.yielded) l.page;
}
