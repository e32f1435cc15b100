-- The entries of a row: the places that the first keys name, and 255 behind them. A store puts the next place.
-- Assumes nothing.
use Rattle.std.proofs.Common.{◌≡◌, ℕ, suc, ◌+◌, ◌-◌, ◌%◌, ◌≤◌, ◌<◌, List, [], ◌∷◌, ◌++◌, length, get_or, take, drop, map, set, replicate, arith, ap, sym, ◌∙◌, append_assoc}
use Rattle.std.proofs.lemmas.List.{map_more, length-map, take_all, drop_all}
use Rattle.std.proofs.Math.Seq.{length-take-le}
use Rattle.std.proofs.Math.Seq.{set-append_seam}
use Rattle.table_rows.specs.Inner.{place_in_key}

module _ (keys : List ℕ) (few : length keys ≤ 16) where
  abbrev pub entries : ℕ → List ℕ
  entries i = map place_in_key (take i keys) ++ replicate (16 - i) 255

  entries_next : (i : ℕ) → i < length keys → set (entries i) i (get_or keys i 0 % 256) ≡ entries (i + 1)
  unfolding place_in_key
  entries_next i h =
      let named : List ℕ = map place_in_key (take i keys) in
      let rest : List ℕ = replicate (16 - (i + 1)) 255 in
      let long : length named ≡ i = simp (length-map, length-take-le i keys (omega arith)) in
      let one : 16 - i ≡ suc (16 - (i + 1)) = omega arith in
      rw (one, map_more place_in_key keys i 0 h)
      (ap (λ (j : ℕ). set (named ++ 255 ∷ rest) j (get_or keys i 0 % 256)) (sym long) ∙ set-append_seam named 255 rest _
      ∙ sym (append_assoc named _ rest))

  -- the same behind the front of a row
  pub row_next : (kind rank i : ℕ) → i < length keys →
      set (kind ∷ rank ∷ length keys ∷ entries i) (3 + i) (get_or keys i 0 % 256) ≡ kind ∷ rank ∷ length keys ∷ entries (i + 1)
  row_next kind rank i h =
      let third : 3 + i ≡ suc (suc (suc i)) = omega arith in
      rw third (ap (λ (xs : List ℕ). kind ∷ rank ∷ length keys ∷ xs) (entries_next i h))

-- the front put, and 255 behind it
pub row_begun : (row : List ℕ) → length row ≡ 19 → (kind rank count : ℕ) (ys : List ℕ) →
    ys ≡ replicate (length (take (length (set (set (set row 0 kind) 1 rank) 2 count) - 3) (drop 3 (set (set (set row 0 kind) 1 rank) 2 count)))) 255 →
    take 3 (set (set (set row 0 kind) 1 rank) 2 count) ++ (ys ++ drop (length (set (set (set row 0 kind) 1 rank) 2 count) - 3) (drop 3 (set (set (set row 0 kind) 1 rank) 2 count)))
    ≡ kind ∷ rank ∷ count ∷ replicate 16 255
row_begun [] e kind rank count ys f = absurd (omega arith)
row_begun (x ∷ []) e kind rank count ys f = absurd (omega arith)
row_begun (x ∷ y ∷ []) e kind rank count ys f = absurd (omega arith)
row_begun (x ∷ y ∷ z ∷ rest) e kind rank count ys f =
    let long : length rest ≡ 16 = omega (arith, e) in
    let all : suc (suc (suc (length rest))) - 3 ≡ 16 = omega arith in
    let short : length rest ≤ 16 = omega arith in
    let entries : ys ≡ replicate 16 255 = f ∙ rw (all, take_all 16 rest short, long) in
    rw (all, drop_all 16 rest short, entries)
