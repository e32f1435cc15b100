-- What is proved of the program's output, for every stream: the line of a refused one, byte by byte, and the lines of one that is read.
-- Assumes nothing.
use Rattle.std.specs.Prelude.{ℕ, List, [], ◌∷◌, ◌++◌, ◌≢◌, ◌≡◌}
use Rattle.stream_rules.specs.Reading.{reading}
use Rattle.stream_rules.specs.Theorems.{Bytes}
use Rattle.text.specs.Numbers.{number_text}
use Rattle.listing_rules.specs.Listing.{all_lines}
use Rattle.listing_rules.specs.Theorems.{ListsAll}
use Rattle.listing.specs.Output.{listing_output}

-- 01, Two networks by hand: a refused stream prints one line: `refused`, number, at; any other the lines of all destinations of the topology read
pub record ListingPrints (stream : List ℕ) : Type 0 where
  pub refused : (reading stream).answer.number ≢ 0 →
      listing_output stream
      ≡ 114 ∷ 101 ∷ 102 ∷ 117 ∷ 115 ∷ 101 ∷ 100 ∷ 32 ∷ (number_text (reading stream).answer.number
      ++ (32 ∷ (number_text (reading stream).answer.at ++ (10 ∷ []))))
  pub listed : (reading stream).answer.number ≡ 0 → listing_output stream ≡ all_lines (reading stream).topology
  pub lines : (reading stream).answer.number ≡ 0 → ListsAll (reading stream).topology

abbrev pub ListingPrintsRight : Type 0
ListingPrintsRight = (stream : List ℕ) → Bytes stream → ListingPrints stream
