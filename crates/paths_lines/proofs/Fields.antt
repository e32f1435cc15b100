-- A line is its front and each field behind a space, so that it can be put part by part; no part is longer than its room.
-- Assumes nothing.
use Prim.Native.Nat.{ℕ, ◌≤◌, ◌<◌}
use mathlib.Core.List.{List, [], ◌∷◌, ◌++◌, map, append_assoc}
use mathlib.Core.Path.{◌≡◌, ◌∙◌}
use native.Mathlib.Omega.{arith}
use lib.ListN.{length, length-append}
use Rattle.topology.specs.Written.{joined_over}
use Rattle.text.specs.Fields.{space}
use Rattle.text.specs.Lines.{newline, answer_text}
use Rattle.text.specs.Numbers.{number_text}
use Rattle.text.proofs.Texts.{small_length, answer_length}
use Rattle.listing_rules.specs.Inner.{fields_text, Short}
use Rattle.listing_rules.proofs.Fields.{spaced_first, joined_fields, fields_length}
use Rattle.paths_lines.specs.Lines.{colon, too_many, line_of, path_line}
use Rattle.paths_lines.specs.Inner.{most_path_line, start_text}

module _ (d u : ℕ) where
  line_fields : (fields : List (List ℕ)) → line_of d u fields ≡ start_text d u ++ (joined_over (λ g. space ∷ g) fields ++ (newline ∷ []))
  unfolding line_of start_text answer_text joined_over colon
  line_fields fields = rw spaced_first (simp append_assoc)

  pub path_fields : (path : List ℕ) → path_line d u path ≡ start_text d u ++ (fields_text path ++ (newline ∷ []))
  unfolding path_line
  path_fields path = line_fields (map number_text path) ∙ rw joined_fields

  pub too_many_fields : line_of d u (too_many ∷ []) ≡ start_text d u ++ (space ∷ (too_many ++ (newline ∷ [])))
  unfolding joined_over too_many
  too_many_fields = line_fields (too_many ∷ [])

  -- whatever its numbers
  pub front_most : length (start_text d u) ≤ 43
  unfolding start_text colon
  front_most = simp length-append (omega (arith, answer_length d u))

  pub too_many_length : length (line_of d u (too_many ∷ [])) ≤ most_path_line
  unfolding too_many
  too_many_length = rw too_many_fields (simp length-append (omega (arith, front_most)))

  module _ (h : d < 100) (k : u < 100) where
    pub front-length : length (start_text d u) ≤ 7
    unfolding start_text answer_text colon
    front-length = simp length-append (omega (arith, small_length d h, small_length u k))

    pub path_length : (path : List ℕ) → length path ≤ 64 → Short path → length (path_line d u path) ≤ most_path_line
    path_length path few short = rw (path_fields path) (simp length-append (omega (arith, front-length, fields_length path short)))
