-- A text put into a buffer byte by byte: each store leaves the rest of the text to put, and texts put one behind the other are one text.
-- Assumes nothing.
use Prim.Native.Nat.{ℕ, suc, ◌+◌, ◌-◌, ◌≤◌}
use mathlib.Core.List.{List, [], ◌∷◌, ◌++◌, append-nil}
use mathlib.Core.Path.{◌≡◌, ◌∙◌, sym, ap, refl}
use native.Mathlib.Nat.{add-zero, zero-add, add-suc, suc-add}
use native.Mathlib.Numerals.{add-one}
use native.Mathlib.Omega.{arith}
use lib.ListN.{length, set, take, drop, length-append, drop_of_length-le}
use lib.Seq.{sets, sets-eq, take-append_seam, length-sets}
use Rattle.std.proofs.Common.{drop-drop, append_assoc}
use Rattle.std.specs.Borrow.{MutBor}
use Rattle.text.specs.Inner.{Put}
use Rattle.text.specs.Page.{Puts}
use Rattle.text.specs.declared.unchecked.lines.Page.{Page}

-- one store, and what is left to put
pub sets_next : (b : List ℕ) (i : ℕ) (x : ℕ) (xs text : List ℕ) → text ≡ x ∷ xs → sets b i text ≡ sets (set b i x) (i + 1) xs
sets_next b i x xs text e = rw (e, add-one)

-- nothing is left
pub sets_none : (b : List ℕ) (i : ℕ) (text : List ℕ) → text ≡ [] → sets b i text ≡ b
sets_none b i text e = rw (e)

-- a text behind another
pub sets_behind : (b : List ℕ) (at : ℕ) (s t : List ℕ) → sets (sets b at s) (at + length s) t ≡ sets b at (s ++ t)
sets_behind b at [] t = rw (add-zero)
sets_behind b at (c ∷ s) t = rw (add-suc, ← suc-add) (sets_behind (set b at c) (suc at) s t)

pub behind : {b : List ℕ} {at : ℕ} {s : List ℕ} {r : ℕ} {b' t : List ℕ} {r' : ℕ} {b'' : List ℕ} → Put b at s r b' → Put b' r t r' b'' →
    Put b at (s ++ t) r' b''
behind {b} {at} {s} {r} {b'} {t} p q = record {
  after = omega (arith, length-append s t);
  stored = q.stored ∙ cc (p.after, p.stored, sets_behind b at s t);
}

-- a text as long as the buffer
pub sets_whole : (b s : List ℕ) → length b ≡ length s → sets b 0 s ≡ s
sets_whole b s l = sets-eq s b 0 (omega arith) ∙ rw (drop_of_length-le b {i = 0 + length s} (omega arith), append-nil)

-- the start of a buffer, where a text was put
pub start : (b s b' : List ℕ) (n : ℕ) → b' ≡ sets b 0 s → length s ≡ n → n ≤ length b → take n b' ≡ s
start b s b' n e l h = rw (e, ← l, sets-eq s b 0 (omega arith)) (take-append_seam s (drop (0 + length s) b))

-- a text put at the start, and the rest of the buffer
pub put_start : {b s : List ℕ} {r : ℕ} {b' : List ℕ} → Put b 0 s r b' → length s ≤ length b → b' ≡ s ++ drop (length s) b
put_start {b} {s} p h =
    let whole : 0 + length s ≤ length b = omega arith in
    p.stored ∙ sets-eq s b 0 whole ∙ rw zero-add

-- a buffer with a part of it replaced by as long a text
pub in_place : (b text part : List ℕ) (at : ℕ) → at + length text ≤ length b → part ≡ text →
    take at b ++ (part ++ drop (at + length text - at) (drop at b)) ≡ sets b at text
in_place b text part at h e =
    let n : at + length text - at ≡ length text = omega arith in
    rw (e, n, drop-drop, ← append_assoc) (sym (sets-eq text b at h))

-- a text put behind another onto a page
pub joined : {a b c : Page} {s t : List ℕ} → Puts a s b → Puts b t c → Puts a (s ++ t) c
joined p q = record { same = q.same ∙ p.same; long = q.long ∙ p.long; put = behind p.put q.put }

-- a text that is put where there is room for it
pub placed : (page : Page) (text : List ℕ) (lent : MutBor (List ℕ)) → lent.ghost_name ≡ page.bytes.ghost_name → lent.now ≡ sets page.bytes.now page.filled text →
    Puts page text (record { bytes = lent; filled = page.filled + length text })
placed page text lent g e = record { same = g; long = ap length e ∙ length-sets page.bytes.now page.filled text; put = record { after = refl; stored = e } }

-- nothing was put
pub nothing : (page : Page) → Puts page [] page
nothing page = record { same = refl; long = refl; put = record { after = sym (add-zero page.filled); stored = refl } }
