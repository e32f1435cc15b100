-- What was put at the start.
-- Assumes nothing.
use Rattle.std.proofs.Common.{◌≡◌, ℕ, ◌≤◌, List, ap, arith, length, take}
use Rattle.std.proofs.Math.Seq.{length-sets}
use Rattle.text.specs.Inner.{Put}
use Rattle.text.proofs.Stores.{start}

-- a text that was put at the start
pub put_first : {b text : List ℕ} {n : ℕ} {b' : List ℕ} → Put b 0 text n b' → length text ≤ length b → (n ≤ length b') × (take n b' ≡ text)
put_first {b} {text} {n} {b'} p h =
    let long = simp length-sets at (ap length p.stored) in
    (omega (arith, p.after), start b text b' n p.stored (omega (arith, p.after)) (omega (arith, p.after)))
