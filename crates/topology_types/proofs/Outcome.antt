-- Numbers of refusals: none is 0, so that an answer with number 0 is a success; and no two reasons have the same.
-- Assumes nothing.
use Rattle.std.proofs.Common.{◌≡◌, ◌<◌, ℕ, arith, refl, Ok, Err, List, [], ◌∷◌, get_or, ap, sym, ◌∙◌}
use Rattle.topology_types.specs.declared.Fault.{Fault}
use Rattle.topology_types.specs.declared.Fault.TheVariants.{StreamCutShort, UnknownKind, RouterListedBefore, TooManyRouters, PlaceNotListed, LinkToItself, CostZero, PairLinkedAlready, TooManyLinks, TooManyNeighbours, ByteAfterEnd, NoRouter, UnsoundTopology, NoSuchPlace, LimitOutOfRange, OrderLength, OrderEntry, FirstNotDestination, NoCandidate, TableNotAccepted, StatesLength, StateOverOne, BufferTooShort, TooManyPaths, MalformedLsa, WrongChecksum, UnusableBandwidth, UnusableSubTlvs}
use Rattle.topology_types.specs.declared.Refusal.{Refusal}
use Rattle.topology_types.specs.Theorems.{AnswersTell}
use Rattle.topology_types.specs.declared.Answer.{Answer}
use Rattle.topology_types.specs.Outcome.{number_of, refused}

pub numbered : (f : Fault) → 0 < number_of f
numbered StreamCutShort = omega arith
numbered UnknownKind = omega arith
numbered RouterListedBefore = omega arith
numbered TooManyRouters = omega arith
numbered PlaceNotListed = omega arith
numbered LinkToItself = omega arith
numbered CostZero = omega arith
numbered PairLinkedAlready = omega arith
numbered TooManyLinks = omega arith
numbered TooManyNeighbours = omega arith
numbered ByteAfterEnd = omega arith
numbered NoRouter = omega arith
numbered UnsoundTopology = omega arith
numbered NoSuchPlace = omega arith
numbered LimitOutOfRange = omega arith
numbered OrderLength = omega arith
numbered OrderEntry = omega arith
numbered FirstNotDestination = omega arith
numbered NoCandidate = omega arith
numbered TableNotAccepted = omega arith
numbered StatesLength = omega arith
numbered StateOverOne = omega arith
numbered BufferTooShort = omega arith
numbered TooManyPaths = omega arith
numbered MalformedLsa = omega arith
numbered WrongChecksum = omega arith
numbered UnusableBandwidth = omega arith
numbered UnusableSubTlvs = omega arith

-- the reasons by number; none has 0 or 13
faults : List Fault
faults = StreamCutShort ∷ StreamCutShort ∷ UnknownKind ∷ RouterListedBefore ∷ TooManyRouters ∷ PlaceNotListed ∷ LinkToItself ∷ CostZero ∷ PairLinkedAlready ∷ TooManyLinks ∷ TooManyNeighbours ∷ ByteAfterEnd ∷ NoRouter ∷ NoRouter ∷ UnsoundTopology ∷ NoSuchPlace ∷ LimitOutOfRange ∷ OrderLength ∷ OrderEntry ∷ FirstNotDestination ∷ NoCandidate ∷ TableNotAccepted ∷ StatesLength ∷ StateOverOne ∷ BufferTooShort ∷ TooManyPaths ∷ MalformedLsa ∷ WrongChecksum ∷ UnusableBandwidth ∷ UnusableSubTlvs ∷ []

named : ℕ → Fault
named n = get_or faults n StreamCutShort

named_number : (f : Fault) → named (number_of f) ≡ f
unfolding named faults
named_number StreamCutShort = refl
named_number UnknownKind = refl
named_number RouterListedBefore = refl
named_number TooManyRouters = refl
named_number PlaceNotListed = refl
named_number LinkToItself = refl
named_number CostZero = refl
named_number PairLinkedAlready = refl
named_number TooManyLinks = refl
named_number TooManyNeighbours = refl
named_number ByteAfterEnd = refl
named_number NoRouter = refl
named_number UnsoundTopology = refl
named_number NoSuchPlace = refl
named_number LimitOutOfRange = refl
named_number OrderLength = refl
named_number OrderEntry = refl
named_number FirstNotDestination = refl
named_number NoCandidate = refl
named_number TableNotAccepted = refl
named_number StatesLength = refl
named_number StateOverOne = refl
named_number BufferTooShort = refl
named_number TooManyPaths = refl
named_number MalformedLsa = refl
named_number WrongChecksum = refl
named_number UnusableBandwidth = refl
named_number UnusableSubTlvs = refl

pub numbers_apart : (f g : Fault) → number_of f ≡ number_of g → f ≡ g
numbers_apart f g e = sym (named_number f) ∙ ap named e ∙ named_number g

refusals_tell : (r s : Refusal) → refused r ≡ refused s → r ≡ s
refusals_tell r s e =
    let f = numbers_apart r.fault s.fault (ap (λ (a : Answer). a.number) e) in
    let i = ap (λ (a : Answer). a.at) e in
    ap (λ (f : Fault). record { fault = f; at = r.at }) f ∙ ap (λ (i : ℕ). record { fault = s.fault; at = i }) i

-- what a call returns is known by its answer
pub answers_tell : AnswersTell
answers_tell (Ok m) (Ok n) e = ap Ok (ap (λ (a : Answer). a.at) e)
answers_tell (Ok m) (Err s) e = absurd (omega (arith, numbered s.fault, ap (λ (a : Answer). a.number) e))
answers_tell (Err r) (Ok n) e = absurd (omega (arith, numbered r.fault, ap (λ (a : Answer). a.number) e))
answers_tell (Err r) (Err s) e = ap Err (refusals_tell r s e)
