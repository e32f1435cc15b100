-- Numbers put at the start of a lent buffer stand there, and what a value costs has no NaN among its numbers.
-- Assumes nothing.
use Prim.Native.Nat.{ℕ, ◌*◌, ◌≤◌}
use mathlib.Core.Bool.{Bool, true, false, not}
use mathlib.Core.List.{List, [], ◌∷◌, map}
use mathlib.Core.Path.{◌≡◌, refl, ap}
use native.Mathlib.Omega.{arith}
use lib.Dec.{T}
use lib.IntN.{pos}
use lib.ListN.{length, take, length-append}
use lib.Seq.{length-sets}
use lib.Ieee.{Float, fin, is_nan}
use Rattle.te.specs.SubTlvs.{usable}
use Rattle.te.specs.Cost.{LinkCost, costing}
use Rattle.te.proofs.Patterns.{number_if_usable}
use Rattle.te.proofs.Reaching.{records_kept}
use Rattle.text.specs.Inner.{Put}
use Rattle.text.specs.Numbers.{number_text}
use Rattle.text.proofs.Stores.{start}
use Rattle.text.proofs.Texts.{number_length}
use Rattle.listing_rules.specs.Listing.{spaced}

-- 20 digits and a space each
spaced_most : (ns : List ℕ) → length (spaced (map number_text ns)) ≤ 21 * length ns
unfolding spaced
spaced_most [] = omega arith
spaced_most (n ∷ []) = omega (arith, number_length n)
spaced_most (n ∷ m ∷ ms) = simp length-append (omega (arith, number_length n, spaced_most (m ∷ ms)))

-- numbers put at the start of a lent buffer
pub numbers_line : (ns : List ℕ) {b : List ℕ} {r : ℕ} {b' : List ℕ} → Put b 0 (spaced (map number_text ns)) r b' → 21 * length ns ≤ length b →
    (take r b' ≡ spaced (map number_text ns)) × (r ≤ length b')
numbers_line ns {b} {r} {b'} p room =
    let fits : r ≤ length b = omega (arith, p.after, spaced_most ns) in
    (start b (spaced (map number_text ns)) b' r p.stored (omega (arith, p.after)) fits, omega (arith, fits, simp length-sets at (ap length p.stored)))

-- by whether it is present
number_kept : (x : Float) (has : Bool) → (has ≡ false → x ≡ fin false 0 (pos 0)) → (has ≡ true → T (usable x)) → T (not (is_nan x))
unfolding is_nan
number_kept x true absent present = number_if_usable x (present refl)
number_kept x false absent present = rw (absent refl) tt

pub no_nans : (value : List ℕ) {c : LinkCost} → c ≡ costing value → T (not (is_nan c.link.maximum)) × T (not (is_nan c.link.reservable))
no_nans value e =
    let k = records_kept value in
    rw e (number_kept _ _ k.maximum_absent k.maximum_present, number_kept _ _ k.reservable_absent k.reservable_present)
