-- A path's line more is put behind those passed.
-- Assumes nothing.
use Rattle.std.proofs.Common.{arith, rules, length, ◌≡◌, ◌*◌, ◌/◌, ◌∙◌, sym, ap, length-append, length-drop}
use Rattle.listing_rules.proofs.InTurn.{none_below, more_below}
use Rattle.paths_lines.specs.Inner.{most_path_line, places_of, path_in, paths_text}
use Rattle.paths_lines.proofs.Fields.{path_length}
use Rattle.paths_lines.proofs.Bytes.{in_few, taken}
use Rattle.paths_lines.proofs.printing.put_paths.Goals as goal

pub loop-path-init : goal.loop-path-init
loop-path-init c = record { wide = search rules; rest = search rules; whole = omega arith; lines = none_below _ most_path_line _ }

pub put_path-requires : goal.put_path-requires
put_path-requires c =
    let (small, low, paths, room) = c.requires in
    let at = c.loop-path.invariant in
    let i = length c.loop-path.yielded in
    let (more, wide) = c.in-Some.ensures.steps.1 in
    let (is, left, inside) = taken c.args.paths.now i _ _ (sym at.rest ∙ more) (wide ∙ at.wide) in
    (small, low, wide ∙ at.wide, rw is (paths.places i inside), omega (arith, paths.few))

pub loop-path-preserved : goal.loop-path-preserved
loop-path-preserved c =
    let (small, low, paths, room) = c.requires in
    let at = c.loop-path.invariant in
    let i = length c.loop-path.yielded in
    let (more, wide) = c.in-Some.ensures.steps.1 in
    let (is, left, inside) = taken c.args.paths.now i _ _ (sym at.rest ∙ more) (wide ∙ at.wide) in
    let short = paths.places i inside in
    let few = path_length c.args.destination.0 c.args.start.0 small low (places_of (path_in c.args.paths.now i)) (in_few _ _ inside) short in
    rw (length-append)
    record {
      wide = c.in-Some.ensures.steps.0 ∙ at.wide;
      rest = left;
      whole = omega (arith, inside);
      lines = more_below _ most_path_line at.lines few (rw is at c.put_path.ensures);
    }

pub returns : goal.returns
unfolding paths_text
returns c =
    let at = c.loop-path.invariant in
    let i = length c.loop-path.yielded in
    let ended = c.in-None.ensures.steps.1.0 in
    let all : i ≡ length c.args.paths.now / 64 = omega (arith, ap length at.rest, length-drop (64 * i) c.args.paths.now, at.wide, ended) in
    rw (← all) at.lines.puts
