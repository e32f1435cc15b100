-- What every record of bytes says fits where it is stored: a number of so many bytes is below the power of 256.
-- Assumes nothing.
use Prim.Native.Nat.{ℕ, ◌≤◌, ◌<◌, ◌^◌}
use mathlib.Core.Bool.{Bool, true, false, cond, ◌||◌}
use mathlib.Core.List.Memᴰ
use mathlib.Core.List.{List, [], ◌∷◌}
use mathlib.Core.Path.{◌≡◌}
use native.Mathlib.Decide.{dec_lt}
use native.Mathlib.Omega.{arith}
use lib.Dec.{eqb}
use lib.ListN.{length, get_or, take, drop, length-drop, take-append-drop}
use lib.Seq.{length-take-le}
use Rattle.network.proofs.Lists.{mem_take}
use Rattle.stream_rules.specs.Record.{Record}
use Rattle.stream_rules.specs.Record as record_of
use Rattle.stream_rules.specs.Stream.{big_endian, body_length, half_in, decoded, record_in}
use Rattle.stream_rules.specs.Inner.{Fitting}
use Rattle.stream_rules.specs.Theorems.{Bytes}
use Rattle.stream_rules.proofs.Digits.{bytes_below}
use Rattle.stream_rules.proofs.Stream.{cut, whole}

-- what a kind and a body of bytes say fits
decoded_fits : (kind : ℕ) (body : List ℕ) → Bytes body → length body ≡ body_length kind → Fitting (decoded kind body)
unfolding body_length decoded half_in
decoded_fits kind body bytes = cases (eqb kind 1) (eqb kind 2) (eqb kind 4) (eqb kind 8) (eqb kind 3)
  where
    cost : length body ≡ 4 → big_endian (drop 2 body) < 256 ^ 2
    cost e =
        let two : length (drop 2 body) ≡ 2 = simp length-drop (omega arith) in
        rw two at (bytes_below (drop 2 body) (λ b m. bytes b (rw take-append-drop at (Memᴰ.append_right (take 2 body) m))))

    cases : (r l h k e : Bool) → length body ≡ cond (r || l || h) 4 (cond k 1 0) →
        Fitting
        (cond r (record_of.Router (big_endian body))
        (cond l (record_of.Link (half_in body))
        (cond h (record_of.Half (half_in body)) (cond k (record_of.Limit (get_or body 0 0)) (cond e record_of.End (record_of.Refused 2))))))
    cases true l h k e long = rw long at (bytes_below body bytes)
    cases false true h k e long = cost long
    cases false false true k e long = cost long
    cases false false false true e long = tt
    cases false false false false true long = tt
    cases false false false false false long = tt

pub record_fits : (s : List ℕ) → Bytes s → Fitting (record_in s)
unfolding record_in
record_fits [] bytes = tt
record_fits (kind ∷ rest) bytes = cases (dec_lt (length rest) (body_length kind))
  where
    cases : Dec (length rest < body_length kind) → Fitting (record_in (kind ∷ rest))
    cases (yes h) = rw (cut kind rest h) tt
    cases (no h) =
        let n = body_length kind in
        let long : n ≤ length rest = omega arith in
        rw (whole kind rest long)
        (decoded_fits kind (take n rest) (λ b m. bytes b (Memᴰ.tail (mem_take n rest m))) (length-take-le n rest long))
