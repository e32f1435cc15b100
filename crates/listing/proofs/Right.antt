-- The output is the program's by the reading's number; a reading with number 0 has a sound topology, of which the lines are right.
-- Assumes nothing.
use Rattle.stream_rules.proofs.Returned.{reads_sound}
use Rattle.listing_rules.specs.Listing.{all_lines}
use Rattle.listing_rules.proofs.Right.{all_right}
use Rattle.program_io.proofs.Right.{all_print}
use Rattle.listing.specs.Output.{listing_output}
use Rattle.listing.specs.Theorems.{ListingPrintsRight}

pub prints_right : ListingPrintsRight
unfolding listing_output
prints_right stream bytes =
    record {
      refused = (all_print all_lines stream).refused;
      listed = (all_print all_lines stream).read;
      lines = λ none. all_right _ ((reads_sound stream bytes).is-sound none);
    }
