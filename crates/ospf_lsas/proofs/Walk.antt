-- A walk goes from one LSA to the next: what the test for 26 finds from its offset on is what it finds in the file.
-- Assumes nothing.
use Prim.Native.Nat.{ℕ, ◌+◌, ◌-◌, ◌≤◌, ◌<◌}
use mathlib.Core.Bool.{Bool, true, false, cond}
use mathlib.Core.List.{List}
use mathlib.Core.Path.{◌≡◌, refl, sym, ap, ◌∙◌}
use native.Mathlib.Omega.{arith}
use lib.ListN.{length, take, drop, length-drop}
use lib.Seq.{drop-drop}
use Rattle.std.proofs.Common.{Some, None}
use Rattle.std.proofs.lemmas.List.{take_rest}
use Rattle.ospf_lsas.specs.Lsa.{length_field, malformed, lsas_from, lsas, first_at, first_malformed_lem}
use Rattle.ospf_lsas.specs.Walk.{all_formed}
use Rattle.ospf_lsas.proofs.Malformed.{cut}
use Rattle.ospf_lsas.proofs.InTurn.{last, followed, none_found, passed}
use Rattle.ospf_lsas.proofs.HandedOn.{no_lsa}

-- the walk has reached an offset: where 26 points from there on is where it points in the file, and so is whether no LSA is malformed
pub record Ahead (file : List ℕ) (at : ℕ) : Type 0 where
  pub inside : at ≤ length file
  pub rest : first_at malformed (length file) (lsas_from at 0 (drop at file)) ≡ first_malformed_lem file
  pub formed : all_formed (lsas_from at 0 (drop at file)) ≡ all_formed (lsas file)

pub at_first : (file : List ℕ) → Ahead file 0
unfolding lsas first_malformed_lem
at_first file = record { inside = omega arith; rest = refl; formed = refl }

module _ {file : List ℕ} {at : ℕ} (a : Ahead file at) where
  -- the end is reached: none is malformed
  pub none_malformed : length file ≤ at → (first_malformed_lem file ≡ length file) × (all_formed (lsas file) ≡ true)
  none_malformed h =
      let end : length (drop at file) ≡ 0 = omega (arith, length-drop at file) in
      (sym a.rest ∙ none_found malformed (length file) at (drop at file) end, sym a.formed ∙ ap all_formed (no_lsa at (drop at file) end))

  module _ (h : at < length file) where
    -- the bytes from the offset on, as they are handed over
    abbrev rest_of : List ℕ
    rest_of = take (length file - at) (drop at file)

    here : malformed (drop at file) ≡ true → at ≡ first_malformed_lem file
    unfolding first_at
    here m = rw (last at (drop at file) (omega (arith, length-drop at file)) m, m) at a.rest

    pub on : malformed (drop at file) ≡ false → Ahead file (at + length_field (drop at file))
    on m =
        let s = drop at file in
        let c = cut s m in
        record {
          inside = omega (arith, c.fits, length-drop at file, a.inside);
          rest = rw (← drop-drop (length_field s) at file) (sym (passed malformed (length file) at s m c.own) ∙ a.rest);
          formed = rw (← drop-drop (length_field s) at file) (sym (ap all_formed (followed at s m) ∙ rw c.own refl) ∙ a.formed);
        }

    pub stopped : None ≡ cond (malformed rest_of) None (Some (length_field rest_of)) → at ≡ first_malformed_lem file
    stopped e = go (malformed (drop at file)) refl (e ∙ rw take_rest refl)
      where
        go : (b : Bool) → malformed (drop at file) ≡ b → None ≡ cond b None (Some (length_field (drop at file))) → at ≡ first_malformed_lem file
        go true m e = here m
        go false m e = cc

    pub moved : (n : ℕ) → Some n ≡ cond (malformed rest_of) None (Some (length_field rest_of)) → Ahead file (at + n) × (1 ≤ n)
    moved n e = go (malformed (drop at file)) refl (e ∙ rw take_rest refl)
      where
        go : (b : Bool) → malformed (drop at file) ≡ b → Some n ≡ cond b None (Some (length_field (drop at file))) → Ahead file (at + n) × (1 ≤ n)
        go true m e = cc
        go false m e =
            let is : n ≡ length_field (drop at file) = cc in
            (rw is (on m), omega (arith, is, (cut (drop at file) m).begun))
