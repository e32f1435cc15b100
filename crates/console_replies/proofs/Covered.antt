-- Numbers with a space behind each are numbers with one space between, and a space behind them all.
-- Assumes nothing.
use Prim.Native.Nat.{ℕ, ◌+◌, ◌-◌, ◌≤◌}
use mathlib.Core.List.{List, [], ◌∷◌, ◌++◌, map, append-nil, append_assoc}
use mathlib.Core.Logic.{⊎_elim}
use mathlib.Core.Path.{◌≡◌, refl, ap, ◌∙◌}
use native.Mathlib.Omega.{arith}
use borrow.Author.Tests.{eq-eqb}
use lib.ListN.{length, take, drop, length-append}
use lib.Seq.{take_at, length-sets}
use Rattle.network.proofs.Tests.{truth}
use Rattle.topology_types.specs.declared.Topology.{Topology}
use Rattle.topology_sound.specs.Sound.{sound}
use Rattle.topology_sound.proofs.Sound.{sound_exact}
use Rattle.topology.specs.Written.{joined_over}
use Rattle.text.specs.Fields.{space}
use Rattle.text.specs.Inner.{Put}
use Rattle.text.specs.Numbers.{final_digits, number_text}
use Rattle.text.specs.Lines.{newline}
use Rattle.text.proofs.Stores.{put_start}
use Rattle.listing_rules.specs.Listing.{spaced}
use Rattle.coverage_rules.specs.Coverage.{Coverage, coverage}
use Rattle.coverage_rules.specs.Printed.{Fraction, fractions, numbers, fraction_text, fractions_text}
use Rattle.coverage_rules.proofs.Right.{figures_right, coverage_refuses}
use Rattle.coverage_rules.proofs.Printing.{text_length}
use Rattle.console_replies.specs.Calls.{coverage_line}
use Rattle.console_replies.specs.Inner.{zeros_text}

followed : ℕ → List ℕ
followed n = number_text n ++ (space ∷ [])

all_followed : (n : ℕ) (ns : List ℕ) → joined_over followed (n ∷ ns) ≡ spaced (map number_text (n ∷ ns)) ++ (space ∷ [])
unfolding joined_over spaced followed
all_followed n [] = append-nil _
all_followed n (m ∷ ms) = rw (all_followed m ms, append_assoc, append_assoc)

by_numbers : (fs : List Fraction) → joined_over (fraction_text space) fs ≡ joined_over followed (joined_over (λ f. f.part ∷ f.whole ∷ []) fs)
unfolding joined_over followed fraction_text spaced
by_numbers [] = refl
by_numbers (f ∷ fs) = rw (by_numbers fs) (simp append_assoc)

-- `0 0 ` and the figures
line_spaced : (c : Coverage) →
    (48 ∷ 32 ∷ 48 ∷ 32 ∷ []) ++ fractions_text space c ≡ spaced (map number_text (0 ∷ 0 ∷ numbers c)) ++ (space ∷ [])
unfolding joined_over followed fractions_text numbers number_text final_digits
line_spaced c = ap (λ s. (48 ∷ 32 ∷ 48 ∷ 32 ∷ []) ++ s) (by_numbers (fractions c)) ∙ all_followed 0 (0 ∷ numbers c)

-- the start of a buffer where a text was put, but for the text's last byte
start_but_one : (b s : List ℕ) (x : ℕ) {r : ℕ} {b' : List ℕ} → Put b 0 (s ++ (x ∷ [])) r b' → r ≤ length b → take (r - 1) b' ≡ s
start_but_one b s x {r} p fits =
    let long : length (s ++ (x ∷ [])) ≡ length s + 1 = length-append s (x ∷ []) in
    let rest = drop (length (s ++ (x ∷ []))) b in
    rw (put_start p (omega (arith, p.after, long)), append_assoc s (x ∷ []) rest) (take_at s (x ∷ rest) (r - 1) (omega (arith, p.after, long)))

-- there are at most 64 destinations
pub few : (t : Topology) → (coverage t).destinations ≤ 64
few t =
    ⊎_elim (λ s. omega (arith, (figures_right t s).destinations, ((sound_exact t).0 s).routers_most))
    (λ n. rw (coverage_refuses t n) (omega arith)) (truth (sound t))

-- the line but for its end, where the text was put into a lent buffer
pub covered_line : (t : Topology) {b b' : List ℕ} {r : ℕ} → length b ≡ 65536 → (coverage t).answer.number ≡ 0 →
    Put b 0 (zeros_text ++ fractions_text space (coverage t)) r b' →
    (take (r - 1) b' ++ (newline ∷ []) ≡ coverage_line (coverage t)) × (1 ≤ r) × (r ≤ length b')
unfolding coverage_line
covered_line t {b} {b'} {r} long zero p =
    let c = coverage t in
    let text = spaced (map number_text (0 ∷ 0 ∷ numbers c)) in
    let put : Put b 0 (text ++ (space ∷ [])) r b' = rw (line_spaced c) at p in
    let size = simp length-append at p.after in
    let fits : r ≤ length b = omega (arith, size, text_length space c (few t)) in (
      rw (eq-eqb c.answer.number 0 zero) (ap (λ s. s ++ (newline ∷ [])) (start_but_one b text space put fits)),
      omega (arith, put.after, length-append text (space ∷ [])),
      omega (arith, fits, simp length-sets at (ap length p.stored)),
    )
