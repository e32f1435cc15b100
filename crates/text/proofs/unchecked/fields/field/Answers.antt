-- The field is the piece with its number.
-- Assumes nothing.
use Rattle.std.proofs.Common.{◌≡◌, ◌∙◌, rules, tests, nat_eq}
use Rattle.std.specs.List.{slice_split, slice_get}
use Rattle.std.specs.Option.{option_map}
use Rattle.std.proofs.lemmas.Iterator.Splits.{YieldsList-from_slice_split}
use Rattle.std.proofs.lemmas.Iterator.Consumers.{nth_from_yields_List}
use Rattle.text.proofs.Scan.{field_piece, held_or_none}
use Rattle.text.proofs.unchecked.fields.field.Goals as goal

pub returns : goal.returns
returns c =
    let a = c.args in
    let s = c.split.ensures in
    let e : option_map (λ s. s.now) c.nth.result ≡ slice_get (slice_split (λ x. nat_eq x 32) a.line.now) a.n =
    nth_from_yields_List c.nth.result c.nth.new.self a.n c.nth.ensures.ran (YieldsList-from_slice_split _ (λ x. nat_eq x 32) a.line.now s.rest s.done s.closure (λ x b q h. search (rules, tests, h))) in
    held_or_none c.nth.result _ c.unwrap_or_default.result (λ h. h) c.unwrap_or_default.ensures ∙ rw e (field_piece a.n a.line.now)
