-- The records of a stream that was written: each record's bytes are a kind and a body as long as the kind says, so they are read as that record, and
-- the bytes after them as the records after it.
-- Assumes nothing.
use Prim.Native.Nat.{ℕ, suc, ◌^◌, ◌<◌}
use mathlib.Core.Bool.{Bool, true, false, cond}
use mathlib.Core.List.{List, [], ◌∷◌, ◌++◌, append_assoc, Memᴰ}
use mathlib.Core.Path.{◌≡◌, refl, sym, ap, ◌∙◌}
use native.Mathlib.Omega.{arith}
use lib.Dec.{eqb}
use lib.ListN.{length, length-append}
use lib.Seq.{take_at, drop_at}
use Rattle.topology_types.specs.declared.Half.{Half}
use Rattle.topology_types.specs.declared.Link.{Link}
use Rattle.topology_types.specs.declared.Topology.{Topology}
use Rattle.topology_types.specs.Topology.{Contents, contents}
use Rattle.stream_rules.specs.Record.{Record}
use Rattle.stream_rules.specs.Record as record_of
use Rattle.stream_rules.specs.Stream.{body_length, decoded, half_in, records}
use Rattle.stream_rules.specs.Halves.{first_half, second_half}
use Rattle.stream_rules.proofs.Digits.{digits, length_bytes}
use Rattle.stream_rules.proofs.InTurn.{next_limit, next_end}
use Rattle.stream_rules.proofs.Stream.{whole, records_drop, no_bytes}
use Rattle.topology.specs.Written.{joined_over, router_bytes, half_body, half_bytes, link_bytes, limit_bytes, written}

-- a kind and a whole body
pub body_record : (kind : ℕ) (body rest : List ℕ) → length body ≡ body_length kind →
    records 0 (kind ∷ body ++ rest) ≡ decoded kind body ∷ records 0 rest
unfolding records
body_record kind body rest e =
    let n = body_length kind in
    rw (whole kind (body ++ rest) (simp length-append (omega arith)), records_drop n (body ++ rest), take_at body rest n e, drop_at body rest n e)

pub router_record : (id : ℕ) (rest : List ℕ) → id < 2 ^ 32 → records 0 (router_bytes id ++ rest) ≡ record_of.Router id ∷ records 0 rest
unfolding router_bytes body_length decoded
router_record id rest h = rw (body_record 1 _ rest (length_bytes 4 id), digits 4 id h)

half_record : (kind : ℕ) (h : Half) (rest : List ℕ) → body_length kind ≡ 4 → h.cost < 2 ^ 16 →
    records 0 (kind ∷ half_body h ++ rest) ≡ decoded kind (half_body h) ∷ records 0 rest
unfolding half_body
half_record kind h rest four fits = body_record kind _ rest (ap (λ (n : ℕ). suc (suc n)) (length_bytes 2 h.cost) ∙ sym four)

body_half : (h : Half) → h.cost < 2 ^ 16 → half_in (half_body h) ≡ h
unfolding half_in half_body
body_half h fits = rw (digits 2 h.cost fits)

pub half-bytes : (h : Half) (rest : List ℕ) → h.cost < 2 ^ 16 → records 0 (half_bytes h ++ rest) ≡ record_of.Half h ∷ records 0 rest
unfolding half_bytes body_length decoded
half-bytes h rest fits = rw (half_record 4 h rest refl fits, body_half h fits)

-- 02, #105: the records of a link: record 2 where its costs agree, else both halves
unfoldable pub link_records : Link → List Record
link_records l =
    cond (eqb l.cost l.back) (record_of.Link (first_half l) ∷ []) (record_of.Half (first_half l) ∷ record_of.Half (second_half l) ∷ [])

link-records : (l : Link) (rest : List ℕ) → l.cost < 2 ^ 16 → l.back < 2 ^ 16 → records 0 (link_bytes l ++ rest) ≡ link_records l ++ records 0 rest
unfolding link_bytes link_records half_bytes body_length decoded first_half second_half
link-records l rest there back = either (eqb l.cost l.back)
  where
    either : (b : Bool) →
        records 0 (cond b (2 ∷ half_body (first_half l)) ((4 ∷ half_body (first_half l)) ++ (4 ∷ half_body (second_half l))) ++ rest)
        ≡ cond b (record_of.Link (first_half l) ∷ []) (record_of.Half (first_half l) ∷ record_of.Half (second_half l) ∷ []) ++ records 0 rest
    either true = rw (half_record 2 (first_half l) rest refl there, body_half (first_half l) there)
    either false =
        rw (
          append_assoc (half_body (first_half l)) (4 ∷ half_body (second_half l)) rest,
          half_record 4 (first_half l) (4 ∷ half_body (second_half l) ++ rest) refl there,
          half_record 4 (second_half l) rest refl back,
          body_half (first_half l) there,
          body_half (second_half l) back,
        )

-- bytes that are each read as some records, one after the other
pub each_record : {A : Type 0} (f : A → List ℕ) (g : A → List Record) (xs : List A) (rest : List ℕ) →
    ((x : A) → Memᴰ x xs → (after : List ℕ) → records 0 (f x ++ after) ≡ g x ++ records 0 after) →
    records 0 (joined_over f xs ++ rest) ≡ joined_over g xs ++ records 0 rest
unfolding joined_over
each_record f g [] rest h = refl
each_record f g (x ∷ xs) rest h =
    rw (append_assoc (f x) (joined_over f xs) rest, append_assoc (g x) (joined_over g xs) (records 0 rest))
    (h x (Memᴰ.head refl) _ ∙ ap (λ (rs : List Record). g x ++ rs) (each_record f g xs rest (λ y m. h y (Memᴰ.tail m))))

-- what a topology is written as
abbrev pub router_records : ℕ → List Record
router_records id = record_of.Router id ∷ []

unfoldable pub records_of : Contents → List Record
records_of c = record_of.Limit c.limit ∷ (joined_over router_records c.ids ++ (joined_over link_records c.links ++ (record_of.End ∷ [])))

limit_records : (k : ℕ) (rest : List ℕ) → records 0 (limit_bytes k ++ rest) ≡ record_of.Limit k ∷ records 0 rest
unfolding limit_bytes
limit_records k rest = next_limit k rest

pub written_records : (t : Topology) → ((id : ℕ) → Memᴰ id (contents t).ids → id < 2 ^ 32) →
    ((l : Link) → Memᴰ l (contents t).links → (l.cost < 2 ^ 16) × (l.back < 2 ^ 16)) → records 0 (written t) ≡ records_of (contents t)
unfolding written records_of contents
written_records t ids links =
    rw (
      limit_records,
      each_record router_bytes router_records _ _ (λ id m after. router_record id after (ids id m)),
      each_record link_bytes link_records _ _ (λ l m after. let (there, back) = links l m in link-records l after there back),
      next_end,
      no_bytes,
    )
