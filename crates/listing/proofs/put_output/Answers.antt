-- The output fits.
-- Assumes nothing.
use Rattle.std.proofs.Common.{ℕ, List, ◌≤◌, length, get_or, Fits, w8, rules, arith}
use Rattle.topology_sound.proofs.Sound.{sound_exact}
use Rattle.listing_rules.specs.Listing.{all_lines}
use Rattle.listing_rules.proofs.Tables.{all_length}
use Rattle.program_io.proofs.Right.{output_most}
use Rattle.listing.specs.Output.{listing_output}
use Rattle.listing.proofs.put_output.Goals as goal

listing_most : (stream : List ℕ) → ((i : ℕ) → Fits w8 (get_or stream i 0)) → length (listing_output stream) ≤ 253952
unfolding listing_output
listing_most stream fits =
    output_most all_lines stream 253952 (omega arith) (λ t good. omega (arith, all_length t good, ((sound_exact t).0 good).routers_most)) fits

pub returns : goal.returns
returns c = (omega (arith, listing_most c.args.stream.now c.type_inv.stream), search rules)
