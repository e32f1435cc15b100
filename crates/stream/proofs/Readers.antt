-- A reader takes the first record of the bytes from its offset on, and those bytes say which record that is and how many bytes it has.
-- Assumes nothing.
use Prim.Native.Nat.{ℕ}
use mathlib.Core.List.{List, [], ◌∷◌}
use mathlib.Core.Path.{◌≡◌, refl, ap, ◌∙◌}
use native.Mathlib.Nat.{add-zero}
use native.Mathlib.Omega.{arith}
use lib.ListN.{drop}
use Rattle.stream_rules.specs.Record.{Record}
use Rattle.stream_rules.specs.Record as record_of
use Rattle.stream_rules.specs.Stream.{record_in, records, body_length}
use Rattle.stream_rules.specs.Reading.{width}
use Rattle.stream_rules.proofs.Stream.{cut}
use Rattle.stream_rules.proofs.InTurn.{next_router, next_link, next_half, next_limit, next_unknown, next_end}
use Rattle.stream.specs.declared.reader.Reader.{Reader}
use Rattle.stream.specs.Reader.{taken, next}
use Rattle.stream.specs.Theorems.{moves, stays, ReaderTakes}

-- the first of some records
unfoldable first : List Record → Record
first [] = record_of.End
first (r ∷ rs) = r

first_of : (kind : ℕ) (rest : List ℕ) {r : Record} {rs : List Record} → records 0 (kind ∷ rest) ≡ r ∷ rs → record_in (kind ∷ rest) ≡ r
unfolding records record_in first
first_of kind rest e = ap first e

module _ (r : Reader) where
  gives : {bytes : List ℕ} {found : Record} → drop r.at r.stream.now ≡ bytes → record_in bytes ≡ found → next r ≡ moves r found (width found)
  unfolding next taken
  gives e is = ap (λ (found : Record). moves r found (width found)) (ap record_in e ∙ is)

  refuses : {bytes : List ℕ} {number : ℕ} → drop r.at r.stream.now ≡ bytes → record_in bytes ≡ record_of.Refused number →
      next r ≡ stays r number
  unfolding width
  refuses {number = number} e is =
      gives e is ∙ ap (λ (at : ℕ). record { found = record_of.Refused number; reader = record { stream = r.stream; at = at } }) (add-zero r.at)

pub reader_takes : ReaderTakes
unfolding width record_in body_length
reader_takes r =
    record {
      router = λ a b e f rest is. gives r is (first_of 1 (a ∷ b ∷ e ∷ f ∷ rest) (next_router a b e f rest));
      link = λ u v e f rest is. gives r is (first_of 2 (u ∷ v ∷ e ∷ f ∷ rest) (next_link u v e f rest));
      half = λ u v e f rest is. gives r is (first_of 4 (u ∷ v ∷ e ∷ f ∷ rest) (next_half u v e f rest));
      limit = λ k rest is. gives r is (first_of 8 (k ∷ rest) (next_limit k rest));
      end = λ rest is. gives r is (first_of 3 rest (next_end rest));
      no_record = λ is. refuses r is refl;
      router_cut = λ body h is. refuses r is (cut 1 body h);
      link_cut = λ body h is. refuses r is (cut 2 body h);
      half_cut = λ body h is. refuses r is (cut 4 body h);
      limit_cut = λ is. refuses r is (cut 8 [] (omega arith));
      unknown = λ kind n1 n2 n3 n4 n8 rest is. refuses r is (first_of kind rest (next_unknown kind n1 n2 n3 n4 n8 rest));
    }
