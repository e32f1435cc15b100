-- Paths stand 64 bytes each, one behind the other, and the places of one end where its padding begins; so what is made of the bytes is made of the paths.
-- Assumes nothing.
use Prim.Native.Nat.{ℕ, zero, suc, ◌+◌, ◌*◌, ◌-◌, ◌≤◌, ◌<◌}
use mathlib.Core.List.{List, [], ◌∷◌, ◌++◌, append_assoc, Memᴰ}
use mathlib.Core.Path.{◌≡◌, refl, ap, ap₂, sym, ◌∙◌}
use native.Mathlib.Nat.{mul-suc, add-zero, zero-add}
use native.Mathlib.Omega.{arith}
use borrow.Author.Tests.{eq-eqb, ne_eqb}
use lib.ListN.{length, get_or, drop, replicate, length-append, length-replicate, length-take, length-drop}
use lib.Seq.{take_at, drop-append-add}
use Rattle.std.proofs.lemmas.List.{drop_at, drop-drop}
use Rattle.network.specs.Lists.{numbers_from, below}
use Rattle.topology_types.specs.Topology.{padded}
use Rattle.topology.specs.Written.{joined_over}
use Rattle.order.proofs.Ranges.{get_d_mem}
use Rattle.text.specs.Fields.{before}
use Rattle.text.proofs.Scan.{before_length}
use Rattle.listing_rules.specs.Inner.{Short}
use Rattle.paths_rules.specs.Calls.{path_bytes}
use Rattle.paths_lines.specs.Lines.{path_line}
use Rattle.paths_lines.specs.Inner.{places_of, path_in, paths_text}

-- a path of at most 64 places, each below 64
pub record Path (p : List ℕ) : Type 0 where
  pub few : length p ≤ 64
  pub places : (v : ℕ) → Memᴰ v p → v < 64

-- a path that stands in bytes has 64 of them
module _ (bytes : List ℕ) (i : ℕ) (whole : 64 * i + 64 ≤ length bytes) where
  pub in_long : length (path_in bytes i) ≡ 64
  unfolding path_in
  in_long = simp (length-take, length-drop) (omega arith)

  pub in_few : length (places_of (path_in bytes i)) ≤ 64
  unfolding places_of
  in_few = omega (arith, before_length 255 (path_in bytes i), in_long)

-- where 64 bytes are taken off the front of what is left behind the first i paths, they are path i, and what is left is what is behind the first i + 1
pub taken : (bytes : List ℕ) (i : ℕ) (path rest : List ℕ) → drop (64 * i) bytes ≡ path ++ rest → length path ≡ 64 →
    (path ≡ path_in bytes i) × (rest ≡ drop (64 * (i + 1)) bytes) × (64 * i + 64 ≤ length bytes)
unfolding path_in
taken bytes i path rest e wide =
    let next : 64 * (i + 1) ≡ 64 * i + 64 = omega arith in (
      rw e (sym (take_at path rest 64 wide)),
      rw (next, ← drop-drop 64 (64 * i) bytes, e) (sym (drop_at path rest 64 wide)),
      omega (arith, ap length e, length-append path rest, length-drop (64 * i) bytes),
    )

-- of equal bytes, nothing stands before the first
before_same : (stop n : ℕ) → before stop (replicate n stop) ≡ []
unfolding before
before_same stop zero = refl
before_same stop (suc n) = rw (eq-eqb stop stop refl)

before_behind : (p : List ℕ) (n : ℕ) → ((v : ℕ) → Memᴰ v p → v < 64) → before 255 (p ++ replicate n 255) ≡ p
unfolding before
before_behind [] n low = before_same 255 n
before_behind (v ∷ p) n low =
    let less = low v (Memᴰ.head refl) in
    rw (ne_eqb v 255 (λ e. omega arith), before_behind p n (λ w m. low w (Memᴰ.tail m)))

module _ {p : List ℕ} (path : Path p) where
  wide : length (path_bytes p) ≡ 64
  unfolding path_bytes padded
  wide = simp (length-append, length-replicate) (omega (arith, path.few))

  pub short : Short p
  short j h = omega (arith, path.places _ (get_d_mem p j 0 h))

  unpadded : places_of (path_bytes p) ≡ p
  unfolding places_of path_bytes padded
  unpadded = before_behind p (64 - length p) path.places

path_at : (ps : List (List ℕ)) (rest : List ℕ) → ((p : List ℕ) → Memᴰ p ps → Path p) → (i : ℕ) → i < length ps →
    places_of (path_in (joined_over path_bytes ps ++ rest) i) ≡ get_or ps i []
unfolding joined_over path_in
path_at [] rest each i h = absurd (omega arith)
path_at (p ∷ ps) rest each zero h =
    let path = each p (Memᴰ.head refl) in
    rw (append_assoc, take_at (path_bytes p) (joined_over path_bytes ps ++ rest) 64 (wide path)) (unpadded path)
path_at (p ∷ ps) rest each (suc i) h =
    let behind : 64 * suc i ≡ length (path_bytes p) + 64 * i = omega (arith, mul-suc 64 i, wide (each p (Memᴰ.head refl))) in
    rw (append_assoc, behind, drop-append-add) (path_at ps rest (λ q m. each q (Memᴰ.tail m)) i (omega arith))

-- what f gives for each number is what g gives for the element there
joined_there : {A : Type 0} (z : A) (f : ℕ → List ℕ) (g : A → List ℕ) (xs : List A) (s : ℕ) →
    ((i : ℕ) → i < length xs → f (s + i) ≡ g (get_or xs i z)) → joined_over f (numbers_from s (length xs)) ≡ joined_over g xs
unfolding joined_over numbers_from
joined_there z f g [] s each = refl
joined_there z f g (x ∷ xs) s each =
    ap₂ (λ (l r : List ℕ). l ++ r) (rw add-zero at (each 0 (omega arith)))
    (joined_there z f g xs (suc s) (λ i h. ap f (omega arith) ∙ each (suc i) (omega arith)))

module _ (ps : List (List ℕ)) (rest : List ℕ) {bytes : List ℕ} (are : bytes ≡ joined_over path_bytes ps ++ rest) (each : (p : List ℕ) → Memᴰ p ps → Path p) where
  pub there : (i : ℕ) → i < length ps → places_of (path_in bytes i) ≡ get_or ps i []
  there i h = rw are (path_at ps rest each i h)

  pub lines : (d u : ℕ) → paths_text d u bytes (length ps) ≡ joined_over (path_line d u) ps
  unfolding paths_text below
  lines d u = joined_there [] _ (path_line d u) ps 0 (λ i h. rw (zero-add, there i h))
