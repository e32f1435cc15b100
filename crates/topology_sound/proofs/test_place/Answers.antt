-- The tests are those of `on_place`, in turn.
use Rattle.std.proofs.Common.{◌≡◌, Bool, true, false, T, ap, sym, ◌∙◌, arith}
use Rattle.std.proofs.lemmas.Float.{T_from_true}
use Rattle.topology_types.specs.Outcome.{answer, refused}
use Rattle.topology_sound.proofs.Place.{on_place_unsound, on_place_outside, on_place_next}
use Rattle.topology_sound.proofs.test_place.Goals as goal

T_off : (b : Bool) → b ≡ false → T b → ⊥
T_off false e t = t
T_off true e t = cc

pub returns-then-not-is_sound : goal.returns-then-not-is_sound
returns-then-not-is_sound c =
    ap refused c.at.ensures ∙ sym (on_place_unsound answer _ _ _ (T_off _ (sym (c.if-not-is_sound.ensures))))

pub returns-then-t-u : goal.returns-then-t-u
returns-then-t-u c =
    ap refused c.at-then-t-u.ensures
    ∙ rw c.index-u.ensures (sym (on_place_outside answer _ _ _ (T_from_true _ (sym (c.if-not-is_sound.ensures))) (omega (arith, c.index-u.ensures, c.if-t-u.true))))

pub returns : goal.returns
returns c = sym (on_place_next answer _ _ _ (T_from_true _ (sym (c.if-not-is_sound.ensures))) (omega (arith, c.index-u.ensures, c.if-t-u.false)))
