-- The figures as they are printed (02, #102): two numbers a line, one space between, unreduced.
-- Assumes nothing.
use Rattle.std.specs.Prelude.{ℕ, List, [], ◌∷◌, ◌++◌, map, take}
use Rattle.topology.specs.Written.{joined_over}
use Rattle.text.specs.Lines.{newline}
use Rattle.text.specs.Numbers.{number_text}
use Rattle.listing_rules.specs.Listing.{spaced}
use Rattle.coverage_rules.specs.declared.CoverageAnswer.{CoverageAnswer}

-- one number over another
pub record Fraction : Type 0 where
  pub part : ℕ
  pub whole : ℕ

-- the next hops listed for the destinations, by place, each over the number of links
unfoldable pub over_links : ℕ → List ℕ → List Fraction
over_links links listed = map (λ n. record { part = n; whole = links }) listed

-- the pairs with two or more next hops over all pairs; then for each destination its listed next hops over the links
unfoldable pub fractions : CoverageAnswer → List Fraction
fractions c = record { part = c.covered; whole = c.pairs } ∷ over_links c.links (take c.destinations c.listed)

-- all numbers, in the order in which they are printed
unfoldable pub numbers : CoverageAnswer → List ℕ
numbers c = joined_over (λ f. f.part ∷ f.whole ∷ []) (fractions c)

-- two numbers, one space between, and the byte that ends them
unfoldable pub fraction_text : ℕ → Fraction → List ℕ
fraction_text end f = spaced (number_text f.part ∷ number_text f.whole ∷ []) ++ (end ∷ [])

-- all of them, each ended so
unfoldable pub fractions_text : ℕ → CoverageAnswer → List ℕ
fractions_text end c = joined_over (fraction_text end) (fractions c)

-- the lines: two numbers a line
unfoldable pub coverage_text : CoverageAnswer → List ℕ
coverage_text c = fractions_text newline c
