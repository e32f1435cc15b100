-- The test of a limit is that of its record.
-- Assumes nothing.
use Rattle.std.proofs.Common.{ℕ, ◌≡◌, true}
use Rattle.std.proofs.Math.Logic.{∥∥₁_map}
use Rattle.topology_sound.specs.Sound.{within}
use Rattle.stream_rules.specs.Halves.{StreamListing}
use Rattle.stream_rules.specs.Reading.{fault, added}
use Rattle.stream_rules.specs.Record as record_of
use Rattle.stream.proofs.Filled.{past_limit}
use Rattle.stream.proofs.Steps.{refused, taken}
use Rattle.stream.proofs.unchecked.Listing.take_limit.Goals as goal

pub returns-then-not-in_range : goal.returns-then-not-in_range
unfolding fault
returns-then-not-in_range c = refused _ (λ p w. rw (← c.if-not-in_range.ensures))

passes : (k : ℕ) → true ≡ within 16 k → (p : StreamListing) → fault p (record_of.Limit k) ≡ 0
unfolding fault
passes k e p = rw (← e)

pub invariant_of-self : goal.invariant_of-self
invariant_of-self c =
    record { stands = ∥∥₁_map c.args.self.now.stands (λ (p, w). (added p (record_of.Limit c.args.k), past_limit w c.args.k (passes c.args.k c.if-not-in_range.ensures p))) }

pub returns : goal.returns
returns c =
    let none = passes c.args.k c.if-not-in_range.ensures in
    taken (λ p w. none p) (λ p w. past_limit w c.args.k (none p))
