-- What is said of the record reader: which record it gives, by the bytes from the offset that it has reached, and how far it goes (01, Topology stream;
-- Refusals, 1 and 2). Numbers and widths are written out.
-- Assumes nothing.
use Rattle.std.specs.Prelude.{ℕ, ◌+◌, ◌<◌, List, [], ◌∷◌, ◌≢◌, ◌≡◌, length, drop}
use Rattle.stream_rules.specs.Record.{Record}
use Rattle.stream_rules.specs.Record as record_of
use Rattle.stream_rules.specs.Theorems.{four_bytes, two_bytes, half_of}
use Rattle.stream.specs.declared.reader.Reader.{Reader}
use Rattle.stream.specs.Reader.{Next, next}

-- the record is given, and the reader goes so many bytes on over the same stream
abbrev pub moves : Reader → Record → ℕ → Next
moves r found bytes = record { found = found; reader = record { stream = r.stream; at = r.at + bytes } }

-- the refusal is given, and the reader stays
abbrev pub stays : Reader → ℕ → Next
stays r number = record { found = record_of.Refused number; reader = r }

-- a reader before the bytes `ahead`
pub record Takes (r : Reader) (ahead : List ℕ) : Type 0 where
  pub router : (a b e f : ℕ) (rest : List ℕ) → ahead ≡ 1 ∷ a ∷ b ∷ e ∷ f ∷ rest → next r ≡ moves r (record_of.Router (four_bytes a b e f)) 5
  pub link : (u v e f : ℕ) (rest : List ℕ) → ahead ≡ 2 ∷ u ∷ v ∷ e ∷ f ∷ rest → next r ≡ moves r (record_of.Link (half_of u v (two_bytes e f))) 5
  pub half : (u v e f : ℕ) (rest : List ℕ) → ahead ≡ 4 ∷ u ∷ v ∷ e ∷ f ∷ rest → next r ≡ moves r (record_of.Half (half_of u v (two_bytes e f))) 5
  pub limit : (k : ℕ) (rest : List ℕ) → ahead ≡ 8 ∷ k ∷ rest → next r ≡ moves r (record_of.Limit k) 2
  pub end : (rest : List ℕ) → ahead ≡ 3 ∷ rest → next r ≡ moves r record_of.End 1
  pub no_record : ahead ≡ [] → next r ≡ stays r 1
  pub router_cut : (body : List ℕ) → length body < 4 → ahead ≡ 1 ∷ body → next r ≡ stays r 1
  pub link_cut : (body : List ℕ) → length body < 4 → ahead ≡ 2 ∷ body → next r ≡ stays r 1
  pub half_cut : (body : List ℕ) → length body < 4 → ahead ≡ 4 ∷ body → next r ≡ stays r 1
  pub limit_cut : ahead ≡ 8 ∷ [] → next r ≡ stays r 1
  pub unknown : (kind : ℕ) → kind ≢ 1 → kind ≢ 2 → kind ≢ 3 → kind ≢ 4 → kind ≢ 8 → (rest : List ℕ) → ahead ≡ kind ∷ rest →
      next r ≡ stays r 2

abbrev pub ReaderTakes : Type 0
ReaderTakes = (r : Reader) → Takes r (drop r.at r.stream.now)
