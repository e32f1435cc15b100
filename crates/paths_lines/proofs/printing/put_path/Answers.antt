-- The front, the places and the line's end are put one behind the other.
-- Assumes nothing.
use Rattle.std.proofs.Common.{ℕ, List, ◌≡◌, ◌≤◌, length, take, ap, refl, ◌∙◌, arith}
use Rattle.text.specs.Fields.{before}
use Rattle.text.proofs.Scan.{take_before, before_length}
use Rattle.text.proofs.Stores.{joined}
use Rattle.listing_rules.proofs.Fields.{fields_length}
use Rattle.paths_lines.specs.Inner.{places_of}
use Rattle.paths_lines.proofs.Fields.{front-length, path_fields}
use Rattle.paths_lines.proofs.printing.put_path.Goals as goal

places : {n : ℕ} (path : List ℕ) → n ≡ length (before 255 path) → take n path ≡ places_of path
unfolding places_of
places path e = ap (λ (k : ℕ). take k path) e ∙ take_before 255 path

counted : (path : List ℕ) → length (places_of path) ≡ length (before 255 path)
unfolding places_of
counted path = refl

few : (path : List ℕ) → length (places_of path) ≤ length path
unfolding places_of
few path = before_length 255 path

pub slice_bounds-put_fields-end : goal.slice_bounds-put_fields-end
slice_bounds-put_fields-end c =
    let path = c.args.path.now in
    let e = places path c.width-places.ensures in
    let n = counted path in
    omega (arith, ap length e, c.width-places.ensures)

pub put_fields-requires : goal.put_fields-requires
put_fields-requires c =
    let path = c.args.path.now in
    let (small, low, long, short, room) = c.requires in
    let e = places path c.width-places.ensures in
    (rw e short, omega (arith, few path, front-length _ _ small low, ap length e))

pub put-requires : goal.put-requires
put-requires c =
    let path = c.args.path.now in
    let (small, low, long, short, room) = c.requires in
    let e = places path c.width-places.ensures in
    let put = rw e at c.put_fields.ensures in
    omega (arith, few path, front-length _ _ small low, fields_length (places_of path) short, put.put.after, put.long)

pub returns : goal.returns
returns c =
    let path = c.args.path.now in
    rw (path_fields, ← places path c.width-places.ensures) (joined c.put_front.ensures (joined c.put_fields.ensures c.put.ensures))
