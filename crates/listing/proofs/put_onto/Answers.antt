-- A stream that is read has a sound topology, whose lines fit; a refused one has its line.
-- Assumes nothing.
use Rattle.std.proofs.Common.{◌∙◌, ap, sym, arith}
use Rattle.topology_sound.proofs.Sound.{sound_exact}
use Rattle.listing_rules.specs.Listing.{all_lines}
use Rattle.program_io.specs.Output.{refused_line}
use Rattle.program_io.proofs.Right.{read_sound, output_read, output_refused}
use Rattle.listing.specs.Output.{listing_output}
use Rattle.listing.proofs.put_onto.Goals as goal

pub returns-in-Err : goal.returns-in-Err
unfolding listing_output
returns-in-Err c = rw (output_refused all_lines c.args.stream.now c.in-Err.refusal c.in-Err.ensures ∙ ap refused_line (sym c.answer.ensures)) c.put_refused.ensures

pub of-requires : goal.of-requires
of-requires c = read_sound c.args.stream.now c.type_inv.stream c.in-Ok.t c.in-Ok.ensures

pub put_all-requires : goal.put_all-requires
put_all-requires c =
    let good = read_sound c.args.stream.now c.type_inv.stream c.in-Ok.t c.in-Ok.ensures in
    (good, c.of.ensures, omega (arith, ((sound_exact _).0 good).routers_most))

pub returns-in-Ok : goal.returns-in-Ok
unfolding listing_output
returns-in-Ok c = rw (output_read all_lines c.args.stream.now c.in-Ok.t c.in-Ok.ensures) c.put_all.ensures
