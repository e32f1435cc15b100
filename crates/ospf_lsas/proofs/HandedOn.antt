-- An LSA that is handed on is the first of those that are left, and those behind it are left then.
-- Assumes nothing.
use Prim.Native.Nat.{ℕ, ◌+◌, ◌≤◌}
use mathlib.Core.Bool.{Bool, true, false, false≢true}
use mathlib.Core.List.{List, [], ◌∷◌}
use mathlib.Core.Path.{◌≡◌, refl, sym, ap, ◌∙◌}
use native.Mathlib.Omega.{arith}
use lib.ListN.{length, take, drop}
use Rattle.stream_rules.specs.Theorems.{two_at}
use Rattle.ospf_lsas.specs.Lsa.{length_field, malformed, Lsa, lsas_from}
use Rattle.ospf_lsas.specs.Walk.{all_formed}
use Rattle.ospf_lsas.proofs.Fields.{fields_each}
use Rattle.ospf_lsas.proofs.Malformed.{cut}
use Rattle.ospf_lsas.proofs.InTurn.{last, followed}
use Rattle.ospf_lsas.proofs.Links.{both}

-- the next LSA has so many bytes
pub record Next (at : ℕ) (s : List ℕ) (n : ℕ) : Type 0 where
  pub begun : 24 ≤ n
  pub fits : n ≤ length s
  pub own : malformed (take n s) ≡ false
  pub front : lsas_from at 0 s ≡ record { at = at; bytes = take n s } ∷ lsas_from (at + n) 0 (drop n s)
  pub others : all_formed (lsas_from (at + n) 0 (drop n s)) ≡ true

pub no_lsa : (at : ℕ) (s : List ℕ) → length s ≡ 0 → lsas_from at 0 s ≡ []
unfolding lsas_from
no_lsa at [] e = refl
no_lsa at (b ∷ s) e = absurd (omega arith)

module _ (at : ℕ) (s : List ℕ) (some : 1 ≤ length s) (formed : all_formed (lsas_from at 0 s) ≡ true) where
  sound : malformed s ≡ false
  sound = go (malformed s) refl
    where
      go : (b : Bool) → malformed s ≡ b → malformed s ≡ false
      go false e = e
      go true e = absurd (false≢true (sym (ap (λ (ls : List Lsa). all_formed ls) (last at s some e) ∙ rw e refl) ∙ formed))

  pub long : length_field s ≡ two_at s 18
  long = let c = cut s sound in (fields_each s (omega (arith, c.begun, c.fits))).ls_length

  by_field : Next at s (length_field s)
  by_field =
      let c = cut s sound in
      let front = followed at s sound in
      record {
        begun = c.begun;
        fits = c.fits;
        own = c.own;
        front = front;
        others = (both _ _ (sym (ap (λ (ls : List Lsa). all_formed ls) front) ∙ formed)).1;
      }

  pub next_one : (n : ℕ) → n ≡ two_at s 18 → Next at s n
  next_one n is = rw (is ∙ sym long) by_field
