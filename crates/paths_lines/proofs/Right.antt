-- The order that is built is the one by the rule, and its table is accepted, so the paths over it are right; the lines go by how many there are.
-- Assumes nothing.
use Prim.Native.Nat.{ℕ}
use mathlib.Core.List.{List, [], ◌∷◌, ◌++◌, append_assoc, append-nil}
use mathlib.Core.Path.{◌≡◌, refl, sym, ◌∙◌}
use native.Mathlib.Omega.{arith}
use borrow.Author.Tests.{lt-ltb, le-ltb}
use lib.ListN.{length}
use Rattle.network.specs.Order.{shortest-path, build}
use Rattle.network.proofs.Build.{built_by_rule}
use Rattle.topology_types.specs.Topology.{network_of}
use Rattle.topology_sound.proofs.Sound.{sound_networks}
use Rattle.topology.specs.Written.{joined_over}
use Rattle.topology.proofs.Joined.{joined_same}
use Rattle.table.proofs.Fields.{fields_read}
use Rattle.text.specs.Lines.{answer_text}
use Rattle.text.specs.Numbers.{number_text}
use Rattle.listing_rules.specs.Inner.{fields_text}
use Rattle.listing_rules.specs.Listing.{table_for}
use Rattle.listing_rules.proofs.Tables.{given, accepted}
use Rattle.paths_rules.specs.Calls.{paths_of}
use Rattle.paths_rules.specs.Theorems.{PathsRight}
use Rattle.paths_rules.proofs.Right.{paths_exact}
use Rattle.paths_rules.proofs.Rule.{paths_by_rule}
use Rattle.paths_lines.specs.Lines.{colon, too_many, line_of, path_line, lines_from, lines_to, all_paths}
use Rattle.paths_lines.specs.Inner.{start_text}
use Rattle.paths_lines.specs.Theorems.{line_of_path, PathLinesRight, AllInTurn}
use Rattle.paths_lines.proofs.Fields.{path_fields, too_many_fields}

module _ (d u : ℕ) where
  path_spread : (path : List ℕ) → path_line d u path ≡ line_of_path d u (joined_over (λ v. 32 ∷ number_text v) path ++ (10 ∷ []))
  unfolding fields_text start_text answer_text colon
  path_spread path = path_fields d u path ∙ simp append_assoc

  too_many_spread : line_of d u (too_many ∷ []) ≡ line_of_path d u (32 ∷ (too_many ++ (10 ∷ [])))
  unfolding start_text answer_text colon
  too_many_spread = too_many_fields d u ∙ simp append_assoc

-- the one path from the destination
itself : (d : ℕ) → joined_over (path_line d d) ((d ∷ []) ∷ []) ≡ line_of_path d d (32 ∷ (number_text d ++ (10 ∷ [])))
unfolding joined_over
itself d = rw append-nil (path_spread d d (d ∷ []) ∙ simp append_assoc)

pub lines_right : PathLinesRight
unfolding lines_from too_many
lines_right t good d place u h =
    let s = sound_networks t good in
    let g = given t good d place in
    let right : PathsRight t (table_for t d) u = paths_exact t good (table_for t d) (accepted t good d place) u h in
    record {
      order = build (network_of t) d shortest-path;
      by_rule = (built_by_rule (network_of t) s.well_formed d (omega (arith, s.routers)) shortest-path).0;
      table = table_for t d;
      given = g;
      accepted = accepted t good d place;
      paths = right;
      up_to_512 = λ k. rw (le-ltb 512 (length (paths_of t (table_for t d) u)) k) (joined_same _ _ (paths_of t (table_for t d) u) (λ p m. path_spread d u p));
      more_than_512 = λ k. rw (lt-ltb 512 (length (paths_of t (table_for t d) u)) k) (too_many_spread d u);
      from_destination = λ e. rw ((paths_by_rule t good (table_for t d) (accepted t good d place) u h).at_destination (e ∙ sym ((fields_read (table_for t d)).destination ∙ g.bytes.destination)), e) (itself d);
    }

pub all_in_turn : AllInTurn
unfolding all_paths lines_to
all_in_turn t = refl
