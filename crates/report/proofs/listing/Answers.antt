-- The lines are put into a buffer of our own, which they fit, and given to the one that was lent.
-- Assumes nothing.
use Rattle.std.proofs.Common.{ℕ, List, Err, arith, rules, length, take, ◌≤◌, ◌≡◌, ◌∙◌, ap, sym, length-take-le}
use borrow.Author.Tests.{lt-ltb, le-ltb}
use Rattle.topology_types.specs.Outcome.{answer_of, given, turned_away}
use Rattle.topology_sound.proofs.Place.{on_place_err, on_place_ok, on_place_next}
use Rattle.text.specs.Inner.{Put}
use Rattle.text.proofs.Stores.{start}
use Rattle.listing_rules.specs.Listing.{lines_for, listing}
use Rattle.listing_rules.proofs.Tables.{lines_length}
use Rattle.report.proofs.listing.Goals as goal

-- what stands at the front of an array where a text was put
in_front : {n : ℕ} {text part array bytes b : List ℕ} → part ≡ take n array → array ≡ bytes → Put b 0 text n bytes → length text ≤ length b → part ≡ text
in_front {n} {text} {part} {array} {bytes} {b} e same p room =
    e ∙ ap (take n) same ∙ start b text bytes n p.stored (omega (arith, p.after)) (omega (arith, p.after))

pub returns-in_err-test_place : goal.returns-in_err-test_place
unfolding listing turned_away
returns-in_err-test_place c =
    let e : c.from_residual.result ≡ Err c.in_err-test_place.field-0.0 = search rules in
    ap (λ r. record { answer = answer_of r; buffer = c.args.out.now }) e
    ∙ on_place_err c.args.t c.args.destination.0 (λ number at. turned_away number at c.args.out.now) _ _ c.in_err-test_place.ensures

pub of-requires : goal.of-requires
of-requires c = (on_place_ok c.args.t c.args.destination.0 c.in_ok-test_place.ensures).0

pub put_lines-requires : goal.put_lines-requires
put_lines-requires c =
    let (good, place) = on_place_ok c.args.t c.args.destination.0 c.in_ok-test_place.ensures in
    (good, c.of.ensures, place, omega (arith, ap length c.new-page.ensures.kept))

pub returns-then-out-needed : goal.returns-then-out-needed
unfolding listing given turned_away
returns-then-out-needed c =
    let (good, place) = on_place_ok c.args.t c.args.destination.0 c.in_ok-test_place.ensures in
    let needed : length (lines_for c.args.t c.args.destination.0) ≡ c.put_lines.new.page.filled = omega arith in
    rw (c.at.ensures, on_place_next, needed, lt-ltb _ _ c.if-out-needed.true)

pub slice_bounds-lines-end : goal.slice_bounds-lines-end
slice_bounds-lines-end c =
    let (good, place) = on_place_ok c.args.t c.args.destination.0 c.in_ok-test_place.ensures in
    omega (arith, lines_length _ good _ place)

pub slice_bounds-copy_from_slice-end-3 : goal.slice_bounds-copy_from_slice-end-3
slice_bounds-copy_from_slice-end-3 c =
    let (good, place) = on_place_ok c.args.t c.args.destination.0 c.in_ok-test_place.ensures in
    sym (length-take-le _ _ (omega (arith, lines_length _ good _ place)))

pub copy_from_slice-requires : goal.copy_from_slice-requires
copy_from_slice-requires c =
    let (good, place) = on_place_ok c.args.t c.args.destination.0 c.in_ok-test_place.ensures in
    length-take-le _ _ c.if-out-needed.false ∙ sym (length-take-le _ _ (omega (arith, lines_length _ good _ place)))

pub returns : goal.returns
unfolding listing given
returns c =
    let (good, place) = on_place_ok c.args.t c.args.destination.0 c.in_ok-test_place.ensures in
    let fits = c.if-out-needed.false in
    let needed : length (lines_for c.args.t c.args.destination.0) ≡ c.put_lines.new.page.filled = omega arith in
    let lines = in_front c.copy_from_slice.ensures.after (search rules) (rw (c.new-page.ensures.begun) at c.put_lines.ensures.put)
    (omega (arith, ap length c.new-page.ensures.kept, lines_length _ good _ place)) in
    rw (on_place_next, lines, needed, le-ltb _ _ fits)
