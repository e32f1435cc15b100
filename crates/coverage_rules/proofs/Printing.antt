-- No line of the figures is longer than its room.
-- Assumes nothing.
use Prim.Native.Nat.{ℕ, ◌≤◌}
use native.Mathlib.Omega.{arith}
use lib.ListN.{length, take, length-map, length-append, length-take}
use Rattle.text.specs.Lines.{answer_text}
use Rattle.text.proofs.Texts.{answer_length}
use Rattle.listing_rules.specs.Listing.{spaced}
use Rattle.listing_rules.proofs.InTurn.{joined_most}
use Rattle.coverage_rules.specs.declared.CoverageAnswer.{CoverageAnswer}
use Rattle.coverage_rules.specs.Printed.{Fraction, over_links, fractions, fraction_text, fractions_text}
use Rattle.coverage_rules.specs.Inner.{most_fraction, most_text}

pub fraction_length : (end : ℕ) (f : Fraction) → length (fraction_text end f) ≤ most_fraction
unfolding fraction_text spaced answer_text
fraction_length end f = simp length-append (omega (arith, simp length-append at (answer_length f.part f.whole)))

pub text_length : (end : ℕ) (c : CoverageAnswer) → c.destinations ≤ 64 → length (fractions_text end c) ≤ most_text
unfolding fractions_text fractions over_links
text_length end c few =
    let many = length-map {B = Fraction} (take c.destinations c.listed) (λ (n : ℕ). record { part = n; whole = c.links }) in
    omega (arith, joined_most (fraction_text end) most_fraction (fractions c) (λ f m. fraction_length end f), many, length-take c.destinations c.listed)
