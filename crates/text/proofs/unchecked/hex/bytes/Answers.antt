-- No bytes for `-`, and those that the digits stand for.
-- Assumes nothing.
use Rattle.std.proofs.Common.{◌≡◌, ◌∙◌, ◌∷◌, [], List, ℕ, Bool, sym, subst, true, false, arith, T}
use lib.Dec.{eqb}
use lib.Pointwise.{pointwise}
use Rattle.network.specs.Lists.{same_numbers}
use Rattle.text.specs.Hex.{in_hex, none}
use Rattle.text.proofs.Scan.{equal_texts}
use Rattle.text.proofs.Bytes.{none_count, none_bytes, not_hex, if_hex, wrong_count, hex_count}
use Rattle.text.proofs.Stores.{sets_none}
use Rattle.text.proofs.unchecked.hex.bytes.Goals as goal

-- whether the field is `-`
dash : (s t : List ℕ) (b c : Bool) → t ≡ 45 ∷ [] → b ≡ pointwise eqb s t → b ≡ c → same_numbers s none ≡ c
unfolding none
dash s t b c e h r = rw (← equal_texts s (45 ∷ []), ← e, ← h) r

pub returns-then-eq : goal.returns-then-eq
returns-then-eq c =
    let s = c.args.s.now in
    let d = dash s _ _ true c.as_slice.ensures c.eq.ensures c.if-eq.true in
    (sym (none_count s d), sym (sets_none _ 0 _ (none_bytes s d)))

pub returns-then-not-is_hex : goal.returns-then-not-is_hex
returns-then-not-is_hex c =
    let s = c.args.s.now in
    let d = dash s _ _ false c.as_slice.ensures c.eq.ensures c.if-eq.false in
    let digits : in_hex s ≡ false = sym c.is_hex.ensures ∙ c.if-not-is_hex.true in
    (sym (wrong_count s d digits), sym (sets_none _ 0 _ (not_hex s digits)))

pub decode-requires : goal.decode-requires
decode-requires c =
    let digits : in_hex c.args.s.now ≡ true = sym c.is_hex.ensures ∙ c.if-not-is_hex.false in
    (subst T (sym digits) tt, omega arith)

pub returns : goal.returns
returns c =
    let s = c.args.s.now in
    let d = dash s _ _ false c.as_slice.ensures c.eq.ensures c.if-eq.false in
    let digits : in_hex s ≡ true = sym c.is_hex.ensures ∙ c.if-not-is_hex.false in
    (sym (hex_count s d digits), rw (if_hex s digits) c.decode.ensures)
