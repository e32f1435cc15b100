-- What the listing program prints for what it has read (01, Two networks by hand).
-- Assumes nothing.
use Rattle.std.specs.Prelude.{ℕ, List}
use Rattle.listing_rules.specs.Listing.{all_lines}
use Rattle.program_io.specs.Output.{output_by}

-- the whole output: the lines of all destinations; a refused stream prints one line: `refused`, number, at
unfoldable pub listing_output : List ℕ → List ℕ
listing_output stream = output_by all_lines stream
