-- The lines of each start are those over the destination's table.
-- Assumes nothing.
use Rattle.std.proofs.Common.{◌∙◌, arith}
use Rattle.topology_sound.proofs.Sound.{sound_exact}
use Rattle.order.specs.Calls.{mode_of}
use Rattle.listing_rules.specs.Listing.{table_for}
use Rattle.routes.proofs.write_to.Goals as goal

pub overflow_cast-u : goal.overflow_cast-u
overflow_cast-u c = omega (arith, ((sound_exact c.args.t.now).0 c.requires.0).routers_most)

pub write_from-requires : goal.write_from-requires
unfolding table_for mode_of
write_from-requires c =
    (record { good = c.requires.0; destination = c.requires.2; start = c.loop-u-test.true; listed = c.as_slice-table.ensures ∙ c.build-built.ensures }, omega arith)
