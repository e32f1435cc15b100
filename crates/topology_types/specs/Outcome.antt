-- Answers, and what a call with a lent buffer leaves (01, Refusals and where they point, 24).
-- Assumes nothing.
use Rattle.std.specs.Prelude.{ℕ, cond, List, [], ◌∷◌, ◌++◌, ltb, length, drop}
use Rattle.std.specs.Prelude.{Result, Ok, Err}
use Rattle.topology_types.specs.declared.Answer.{Answer}
use Rattle.topology_types.specs.declared.Fault.{Fault}
use Rattle.topology_types.specs.declared.Fault.TheVariants.{StreamCutShort, UnknownKind, RouterListedBefore, TooManyRouters, PlaceNotListed, LinkToItself, CostZero, PairLinkedAlready, TooManyLinks, TooManyNeighbours, ByteAfterEnd, NoRouter, UnsoundTopology, NoSuchPlace, LimitOutOfRange, OrderLength, OrderEntry, FirstNotDestination, NoCandidate, TableNotAccepted, StatesLength, StateOverOne, BufferTooShort, TooManyPaths, MalformedLsa, WrongChecksum, UnusableBandwidth, UnusableSubTlvs}
use Rattle.topology_types.specs.declared.Refusal.{Refusal}

-- 01, Refusals: an answer is a number and an "at"
abbrev pub answer : ℕ → ℕ → Answer
answer number at = record { number = number; at = at }

-- 01 and 02, Refusals: the number of each reason
abbrev pub number_of : Fault → ℕ
number_of StreamCutShort = 1
number_of UnknownKind = 2
number_of RouterListedBefore = 3
number_of TooManyRouters = 4
number_of PlaceNotListed = 5
number_of LinkToItself = 6
number_of CostZero = 7
number_of PairLinkedAlready = 8
number_of TooManyLinks = 9
number_of TooManyNeighbours = 10
number_of ByteAfterEnd = 11
number_of NoRouter = 12
number_of UnsoundTopology = 14
number_of NoSuchPlace = 15
number_of LimitOutOfRange = 16
number_of OrderLength = 17
number_of OrderEntry = 18
number_of FirstNotDestination = 19
number_of NoCandidate = 20
number_of TableNotAccepted = 21
number_of StatesLength = 22
number_of StateOverOne = 23
number_of BufferTooShort = 24
number_of TooManyPaths = 25
number_of MalformedLsa = 26
number_of WrongChecksum = 27
number_of UnusableBandwidth = 28
number_of UnusableSubTlvs = 29

-- the answer of a refusal
abbrev pub refused : Refusal → Answer
refused r = answer (number_of r.fault) r.at

-- 01, Refusals: the answer that a call's result stands for. A success has number 0; its "at" is how many elements of a buffer were written.
abbrev pub answer_of : Result ℕ Refusal → Answer
answer_of (Ok written) = answer 0 written
answer_of (Err r) = refused r

-- the same of a call that writes to no buffer, whose "at" is then 0
abbrev pub tested : {A : Type 0} → Result A Refusal → Answer
tested (Ok _) = answer 0 0
tested (Err r) = refused r

-- the number of the first test that is failed, 0 if none is
abbrev pub failed : {A : Type 0} → Result A Fault → ℕ
failed (Ok _) = 0
failed (Err f) = number_of f

-- What a call with a lent buffer leaves: its answer, and all bytes of the buffer.
pub record Outcome : Type 0 where
  pub answer : Answer
  pub buffer : List ℕ

-- 01, Refusals: no refusal writes to a buffer
unfoldable pub turned_away : ℕ → ℕ → List ℕ → Outcome
turned_away number at buffer = record { answer = answer number at; buffer = buffer }

-- 01, Refusals, 24, at the length needed; success writes only the stated bytes, the rest of a longer buffer staying
unfoldable pub given : List ℕ → List ℕ → Outcome
given bytes buffer =
    cond (ltb (length buffer) (length bytes)) (turned_away 24 (length bytes) buffer)
    record { answer = answer 0 (length bytes); buffer = bytes ++ drop (length bytes) buffer }

-- the first of a list, or another number where it is empty
unfoldable pub first_or : ℕ → List ℕ → ℕ
first_or other [] = other
first_or other (x ∷ xs) = x
