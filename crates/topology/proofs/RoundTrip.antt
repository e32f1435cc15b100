-- A sound topology holds its contents and zeros behind them, so reading its stream, whose records are taken with no fault, returns it; what is
-- written is bytes, as K and places are below 256.
-- Assumes nothing.
use Prim.Native.Nat.{ℕ, ◌-◌, ◌/◌, ◌%◌, ◌≤◌, ◌<◌, ◌^◌}
use mathlib.Core.List.Memᴰ
use mathlib.Core.List.{List, [], ◌∷◌, ◌++◌, Memᴰ}
use mathlib.Core.Bool.{Bool, true, false, cond}
use mathlib.Core.Logic.{⊎_elim}
use mathlib.Core.Path.{◌≡◌, refl, sym, ◌∙◌, ap}
use native.Mathlib.Nat.{div-one}
use native.Mathlib.Omega.{arith}
use lib.Dec.{T, eqb}
use lib.ListN.{length, take, drop, replicate, length-drop, take-append-drop}
use lib.Seq.{length-take-le}
use Rattle.network.proofs.Lists.{mem_take}
use Rattle.topology_types.specs.declared.Half.{Half}
use Rattle.topology_types.specs.declared.Link.{Link}
use Rattle.topology_types.specs.declared.Topology.{Topology}
use Rattle.topology_types.specs.Topology.{no_link, padded, contents, held, seen, network_of}
use Rattle.topology_types.proofs.Arcs.{arcs_listed}
use Rattle.topology_sound.specs.Sound.{sound}
use Rattle.topology_sound.specs.Theorems.{Sound}
use Rattle.topology_sound.proofs.Sound.{within_fact, routers_listed, links_listed, sound_exact}
use Rattle.stream_rules.specs.declared.Reading.{Reading}
use Rattle.stream_rules.specs.Stream.{in_bytes}
use Rattle.stream_rules.specs.Halves.{first_half, second_half}
use Rattle.stream_rules.specs.Reading.{accepted_reading, reading}
use Rattle.stream_rules.specs.Theorems.{Bytes, success}
use Rattle.stream_rules.proofs.Digits.{byte_below}
use Rattle.stream_rules.proofs.Returned.{reads_sound}
use Rattle.topology.specs.Written.{joined_over, router_bytes, half_body, half_bytes, link_bytes, limit_bytes, written}
use Rattle.topology.specs.Theorems.{WrittenRead, SoundIsRead, WrittenLong}
use Rattle.topology.proofs.Joined.{joined_same}
use Rattle.topology.proofs.Rewritten.{written_records}
use Rattle.topology.proofs.WrittenLength.{written_length, written_most}
use Rattle.topology.proofs.LinkTaken.{GoodLinks}
use Rattle.topology.proofs.TakenInTurn.{GoodContents, all-taken}

-- a list of one element over and over
all_same : {A : Type 0} (z : A) (xs : List A) → ((x : A) → Memᴰ x xs → x ≡ z) → xs ≡ replicate (length xs) z
all_same z [] h = refl
all_same z (x ∷ xs) h = rw (h x (Memᴰ.head refl), ← all_same z xs (λ y m. h y (Memᴰ.tail m)))

-- a list of so many slots, with z behind the first n
repadded : {A : Type 0} (z : A) (slots n : ℕ) (xs : List A) → length xs ≡ slots → n ≤ slots → ((x : A) → Memᴰ x (drop n xs) → x ≡ z) →
    xs ≡ padded z slots (take n xs)
unfolding padded
repadded z slots n xs long fit rest =
    let behind : length (drop n xs) ≡ slots - length (take n xs) = rw (length-drop n xs, length-take-le n xs (omega arith), long) in
    sym (take-append-drop n xs) ∙ ap (λ ys. take n xs ++ ys) (all_same z (drop n xs) rest ∙ ap (λ m. replicate m z) behind)

is_none : (l : Link) → (l.first.0 ≡ 0) × (l.second.0 ≡ 0) × (l.cost ≡ 0) × (l.back ≡ 0) → l ≡ no_link
unfolding no_link
is_none l (a, b, c, d) = λ i. record { first = record { 0 = a i }; second = record { 0 = b i }; cost = c i; back = d i }

bytes_none : Bytes []
bytes_none b m = absurd (Memᴰ.not-nil m)

bytes_cons : (x : ℕ) (xs : List ℕ) → x < 256 → Bytes xs → Bytes (x ∷ xs)
bytes_cons x xs h bytes b m = ⊎_elim (λ e. rw e h) (bytes b) (Memᴰ.cases_cons m)

bytes_append : (xs ys : List ℕ) → Bytes xs → Bytes ys → Bytes (xs ++ ys)
bytes_append xs ys first second b m = ⊎_elim (first b) (second b) (Memᴰ.append_cases xs m)

bytes_joined : {A : Type 0} (g : A → List ℕ) (xs : List A) → ((x : A) → Memᴰ x xs → Bytes (g x)) → Bytes (joined_over g xs)
unfolding joined_over
bytes_joined g [] each = bytes_none
bytes_joined g (x ∷ xs) each =
    bytes_append (g x) (joined_over g xs) (each x (Memᴰ.head refl)) (bytes_joined g xs (λ y m. each y (Memᴰ.tail m)))

limit-bytes : (k : ℕ) → k < 256 → Bytes (limit_bytes k)
unfolding limit_bytes
limit-bytes k h = bytes_cons 8 (k ∷ []) (omega arith) (bytes_cons k [] h bytes_none)

link-bytes : (l : Link) → l.first.0 < 256 → l.second.0 < 256 → Bytes (link_bytes l)
unfolding link_bytes half_bytes half_body first_half second_half
link-bytes l first second = either (eqb l.cost l.back)
  where
    behind : (kind : ℕ) (h : Half) → kind < 256 → h.from.0 < 256 → h.to.0 < 256 → Bytes (kind ∷ half_body h)
    behind kind h k from to =
        bytes_cons kind _ k (bytes_cons h.from.0 _ from (bytes_cons h.to.0 _ to (byte_below 2 h.cost)))

    either : (b : Bool) → Bytes (cond b (2 ∷ half_body (first_half l)) (half_bytes (first_half l) ++ half_bytes (second_half l)))
    either true = behind 2 (first_half l) (omega arith) first second
    either false =
        bytes_append (half_bytes (first_half l)) _ (behind 4 (first_half l) (omega arith) first second)
        (behind 4 (second_half l) (omega arith) second first)

module _ (t : Topology) (s : T (sound t)) where
  f : Sound t
  f = (sound_exact t).0 s

  routers_in : t.routers ≤ length t.id
  routers_in = omega (arith, f.routers_most, f.id_slots)

  links-in : t.links ≤ length t.link
  links-in = omega (arith, f.links_most, f.link_slots)

  routers_are : length (contents t).ids ≡ t.routers
  routers_are = routers_listed t routers_in

  links_are : length (contents t).links ≡ t.links
  links_are = links_listed t links-in

  whole_sound : t ≡ held (contents t)
  unfolding held contents
  whole_sound = λ i. record {
    routers = sym routers_are i;
    links = sym links_are i;
    limit = t.limit;
    id = repadded 0 64 t.routers t.id f.id_slots f.routers_most f.ids_unused i;
    link = repadded no_link 256 t.links t.link f.link_slots f.links_most (λ l m. is_none l (f.links_unused l m)) i;
  }

  links_good : GoodLinks (contents t).ids (contents t).links
  unfolding contents seen network_of
  links_good =
      record {
        facts = f.linked;
        few = omega (arith, links_are, f.links_most);
        neighbours = λ u h. rw (← arcs_listed (contents t) u h) (f.neighbours u (omega (arith, routers_are)));
      }

  contents_good : GoodContents (contents t)
  unfolding contents
  contents_good =
      record {
        some = omega (arith, routers_are, f.routers_least);
        few = omega (arith, routers_are, f.routers_most);
        limit = (within_fact 16 t.limit).1 (f.limit_least, f.limit_most);
        links = links_good;
      }

  id_fits : (i : ℕ) → Memᴰ i (contents t).ids → i < 2 ^ 32
  unfolding contents
  id_fits i m = f.ids_fit i (mem_take t.routers t.id m)

  link_fits : (l : Link) → Memᴰ l (contents t).links → (l.first.0 < 256) × (l.second.0 < 256) × (l.cost < 2 ^ 16) × (l.back < 2 ^ 16)
  unfolding seen
  link_fits l m =
      let sound-link = links_good.facts.each (seen l) (Memᴰ.map seen m) in
      let few : length (contents t).ids ≤ 64 = omega (arith, routers_are, f.routers_most) in (
        omega (arith, sound-link.first_listed),
        omega (arith, sound-link.second_listed),
        omega (arith, sound-link.cost_most),
        omega (arith, sound-link.back_most),
      )

  read_again : reading (written t) ≡ success t
  unfolding reading accepted_reading
  read_again = rw (written_records t id_fits (λ l m. let (first, second, cost, back) = link_fits l m in (cost, back))) (all-taken (contents t) contents_good ∙ ap success (sym whole_sound))

  written_bytes : Bytes (written t)
  unfolding written router_bytes
  written_bytes =
      bytes_append (limit_bytes t.limit) _ (limit-bytes t.limit (omega (arith, f.limit_most)))
      (bytes_append (joined_over router_bytes (contents t).ids) _
      (bytes_joined router_bytes (contents t).ids (λ i m. bytes_cons 1 (in_bytes 4 i) (omega arith) (byte_below 4 i)))
      (bytes_append (joined_over link_bytes (contents t).links) _
      (bytes_joined link_bytes (contents t).links
      (λ l m. let (first, second, cost, back) = link_fits l m in link-bytes l first second))
      (bytes_cons 3 [] (omega arith) bytes_none)))

pub written_read : WrittenRead
written_read = read_again

pub sound_is_read : SoundIsRead
sound_is_read t = (
  λ s. (written t, (written_bytes t s, read_again t s)),
  λ (s, (bytes, e)). rw e at ((reads_sound s bytes).is-sound (ap (λ (r : Reading). r.answer.number) e)),
)

-- bytes by division; the last byte of a number is its remainder
router_spelled : (id : ℕ) → router_bytes id ≡ 1 ∷ id / 16777216 % 256 ∷ id / 65536 % 256 ∷ id / 256 % 256 ∷ id % 256 ∷ []
unfolding router_bytes in_bytes
router_spelled id = simp div-one

link_spelled : (l : Link) → link_bytes l
    ≡ cond (eqb l.cost l.back) (2 ∷ l.first.0 ∷ l.second.0 ∷ l.cost / 256 % 256 ∷ l.cost % 256 ∷ [])
    (4 ∷ l.first.0 ∷ l.second.0 ∷ l.cost / 256 % 256 ∷ l.cost % 256 ∷ 4 ∷ l.second.0 ∷ l.first.0 ∷ l.back / 256 % 256 ∷ l.back % 256 ∷ [])
unfolding link_bytes half_bytes half_body first_half second_half in_bytes
link_spelled l = simp div-one

pub written_long : WrittenLong
unfolding written contents limit_bytes
written_long t s =
    record {
      stream = rw (joined_same router_bytes _ _ (λ id m. router_spelled id), joined_same link_bytes _ _ (λ l m. link_spelled l));
      bytes = written_bytes t s;
      long = written_length t (routers_in t s) (links-in t s);
      most = omega (arith, written_most t (routers_in t s) (links-in t s), (f t s).routers_most, (f t s).links_most);
    }
