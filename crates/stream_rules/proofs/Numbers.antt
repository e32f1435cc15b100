-- The numbers that a record of kind 1, 2, 4 or 8 can have as its fault: each test has one of them, and a chain of tests gives the number of one test, or 0.
-- Assumes nothing.
use Prim.Native.Nat.{ℕ, zero, suc, ◌+◌}
use mathlib.Core.Bool.{Bool, true, false, cond, not, ◌&&◌}
use mathlib.Core.List.{List, [], ◌∷◌}
use lib.Dec.{T, eqb, leb, ltb}
use lib.ListN.{length}
use Rattle.network.specs.Lists.{any, member}
use Rattle.topology_types.specs.declared.Half.{Half}
use Rattle.topology_sound.specs.Sound.{within}
use Rattle.stream_rules.specs.Record.{Record}
use Rattle.stream_rules.specs.Halves.{StreamListing, halves}
use Rattle.stream_rules.specs.Reading.{router_fault_lem, repeated, crowded, halves_fault_lem, fault}
use Rattle.stream_rules.specs.Theorems.{RecordBytes, four_bytes}

abbrev pub faults : List ℕ
faults = 3 ∷ 4 ∷ 5 ∷ 6 ∷ 7 ∷ 8 ∷ 9 ∷ 10 ∷ 16 ∷ []

unfoldable pub Met : ℕ → Type 0
Met zero = T true
Met (suc n) = T (member (suc n) faults)

-- by a test and the tests after it
either : (b : Bool) (n rest : ℕ) → Met n → Met rest → Met (cond b n rest)
either true n rest m k = m
either false n rest m k = k

met_halves : (p : StreamListing) (h : Half) (new : List Half) → Met (halves_fault_lem p h new)
unfolding halves_fault_lem Met member
met_halves p h new =
    let n = length p.contents.ids in
    either (not (ltb h.from.0 n && ltb h.to.0 n)) 5 _ tt
    (either (eqb h.from.0 h.to.0) 6 _ tt
    (either (eqb h.cost 0) 7 _ tt
    (either (any (repeated p) new) 8 _ tt
    (either (ltb 512 (length (halves p) + length new)) 9 _ tt (either (any (λ k. crowded p k.from.0) new) 10 0 tt tt)))))

pub met : (p : StreamListing) {bytes : List ℕ} {r : Record} → RecordBytes bytes r → Met (fault p r)
unfolding fault router_fault_lem Met member
met p (RecordBytes.router a b e f) =
    either (member (four_bytes a b e f) p.contents.ids) 3 _ tt (either (leb 64 (length p.contents.ids)) 4 0 tt tt)
met p (RecordBytes.link u v e f) = met_halves p _ _
met p (RecordBytes.half u v e f) = met_halves p _ _
met p (RecordBytes.limit k) = either (within 16 k) 0 16 tt tt
