-- Numbers below half of what their width holds compare alike as signed numbers.
-- Assumes nothing.
use Prim.Native.Nat.{ℕ, ◌^◌, ◌≤◌, ◌<◌}
use mathlib.Core.Bool.{true, false}
use mathlib.Core.Path.{◌≡◌, sym, ◌∙◌}
use borrow.Author.Tests.{ltb-true, ltb-false}
use lib.Dec.{ltb}
use lib.Signed.{lt_z}
use mir.Syntax.{Width}
use mir.Val.{hbits, to_z}
use mir.Facts.{to_z_pos}

module _ (w : Width) (a b : ℕ) (h : a < 2 ^ hbits w) (k : b < 2 ^ hbits w) where
  same : lt_z (to_z w a) (to_z w b) ≡ ltb a b
  same = rw (to_z_pos w h, to_z_pos w k)

  pub signed_less : lt_z (to_z w a) (to_z w b) ≡ true → a < b
  signed_less e = ltb-true a b (sym same ∙ e)

  pub signed_not_less : lt_z (to_z w a) (to_z w b) ≡ false → b ≤ a
  signed_not_less e = ltb-false a b (sym same ∙ e)
