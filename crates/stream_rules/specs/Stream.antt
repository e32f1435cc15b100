-- The topology stream as records (01, Topology stream).
-- Assumes nothing.
use Rattle.std.specs.Prelude.{ℕ, zero, suc, ◌+◌, ◌*◌, ◌/◌, ◌%◌, ◌^◌, cond, ◌||◌, List, [], ◌∷◌, eqb, ltb, length, get_or, take, drop}
use Rattle.topology_types.specs.declared.Half.{Half}
use Rattle.stream_rules.specs.Record.{Record}
use Rattle.stream_rules.specs.Record as record_of

-- numbers are big-endian: n, and after it the digits
unfoldable pub big_endian_on : ℕ → List ℕ → ℕ
big_endian_on n [] = n
big_endian_on n (b ∷ bs) = big_endian_on (n * 256 + b) bs

unfoldable pub big_endian : List ℕ → ℕ
big_endian bs = big_endian_on 0 bs

-- numbers are big-endian: x in so many bytes
unfoldable pub in_bytes : ℕ → ℕ → List ℕ
in_bytes zero x = []
in_bytes (suc bytes) x = x / 256 ^ bytes % 256 ∷ in_bytes bytes x

-- the kind fixes the length of the body: router, link and half 4 bytes, next-hop limit 1, end none. An unknown kind has no body, so its record is never
-- cut short: 2 is met before 1 (01, Refusals: within one record 2, 1).
unfoldable pub body_length : ℕ → ℕ
body_length kind = cond (eqb kind 1 || eqb kind 2 || eqb kind 4) 4 (cond (eqb kind 8) 1 0)

-- the body of a half (02, #105): from, to, cost (2). A link's is place, place, cost (2), the first of its two halves.
unfoldable pub half_in : List ℕ → Half
half_in body = record { from = record { 0 = get_or body 0 0 }; to = record { 0 = get_or body 1 0 }; cost = big_endian (drop 2 body) }

-- what a body of the kind says; refusal 2 where there is no such kind
unfoldable pub decoded : ℕ → List ℕ → Record
decoded kind body =
    cond (eqb kind 1) (record_of.Router (big_endian body))
    (cond (eqb kind 2) (record_of.Link (half_in body))
    (cond (eqb kind 4) (record_of.Half (half_in body))
    (cond (eqb kind 8) (record_of.Limit (get_or body 0 0))
    (cond (eqb kind 3) record_of.End (record_of.Refused 2)))))

-- the record that the bytes begin with: one byte of kind, then a body; refusal 1 where they end before or inside it
unfoldable pub record_in : List ℕ → Record
record_in [] = record_of.Refused 1
record_in (kind ∷ rest) = cond (ltb (length rest) (body_length kind)) (record_of.Refused 1) (decoded kind (take (body_length kind) rest))

-- the records of the bytes, in turn, after `skipped` bytes of a body
unfoldable pub records : ℕ → List ℕ → List Record
records skipped [] = []
records zero (kind ∷ rest) = record_in (kind ∷ rest) ∷ records (body_length kind) rest
records (suc skipped) (byte ∷ rest) = records skipped rest
