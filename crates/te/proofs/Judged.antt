-- What a sub-TLV of type 5, 6 or 7 says, by its type and by whether its bandwidth can be used.
-- Assumes nothing.
use Prim.Native.Nat.{ℕ}
use mathlib.Core.Bool.{Bool, true, false, cond}
use mathlib.Core.Logic.{◌≢◌}
use mathlib.Core.Path.{◌≡◌, refl}
use borrow.Author.Tests.{eq-eqb, ne_eqb}
use lib.Dec.{eqb}
use lib.Ieee.{Float, binary32, of_bits}
use Rattle.te.specs.SubTlvs.{Refused, Is}
use Rattle.te.specs.declared.SubTlv.TheVariants.{TeMetric, MaxBandwidth, Reservable}
use Rattle.te.specs.SubTlvs.{usable, case_of, judged}

module _ (kind number : ℕ) where
  abbrev x : Float
  x = of_bits binary32 number

  pub metric : kind ≡ 5 → Is (TeMetric number) ≡ judged (case_of kind number)
  unfolding judged case_of
  metric h = rw (eq-eqb kind 5 h) refl

  module _ (other : kind ≢ 5) where
    pub refused : usable x ≡ false → Refused 28 ≡ judged (case_of kind number)
    unfolding judged case_of
    refused u = rw (ne_eqb kind 5 other) (go (eqb kind 6))
      where
        go : (six : Bool) → Refused 28 ≡ judged (cond six (MaxBandwidth x) (Reservable x))
        go true = rw u refl
        go false = rw u refl

    module _ (u : usable x ≡ true) where
      pub maximum : kind ≡ 6 → Is (MaxBandwidth x) ≡ judged (case_of kind number)
      unfolding judged case_of
      maximum h = rw (ne_eqb kind 5 other, eq-eqb kind 6 h, u) refl

      pub reservable : kind ≢ 6 → Is (Reservable x) ≡ judged (case_of kind number)
      unfolding judged case_of
      reservable h = rw (ne_eqb kind 5 other, ne_eqb kind 6 h, u) refl
