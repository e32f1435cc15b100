-- `table::unchecked::check` meets its contract: at each return the tests before it passed and the one that led there failed, which is what judging the
-- table answers.
-- Assumes nothing.
use Rattle.std.proofs.Common.{◌≡◌, ℕ, List, Bool, true, false, length, arith, refl, sym, ap, ◌∙◌}
use Rattle.std.proofs.Math.Seq.{length-take-le}
use lib.Dec.{T}
use Rattle.network.proofs.Tests.{both}
use Rattle.topology_types.specs.declared.Answer.{Answer}
use Rattle.topology_types.specs.Outcome.{refused}
use Rattle.topology_sound.proofs.Sound.{sound_exact}
use Rattle.distances.proofs.Laid.{laid_out}
use Rattle.table_rows.specs.declared.Layout.{Layout}
use Rattle.table_rows.specs.Layout.{narrow, row_start_lem, table_length}
use Rattle.table_rows.proofs.Layouts.{readable}
use Rattle.table.specs.Calls.{sound_header, table_judging}
use Rattle.table.proofs.Calling.{ranks_pass, ranks_fail, begins_with, wrong_length, wrong_start, wrong_at, none_at}
use Rattle.table.proofs.Filling.{placed_at, header_destination, err_number, ok_number}
use Rattle.table.proofs.unchecked.check.Goals as goal

on : {b : Bool} → true ≡ b → T b
on e = rw (← e) tt

off : {b : Bool} → false ≡ b → T b → ⊥
off e h = rw (← e) at h

-- a table of the length that its layout asks for
whole : {l : Layout} {bytes lent : List ℕ} (n : ℕ) {start : ℕ} → l ≡ narrow → bytes ≡ lent → start ≡ row_start_lem l n → length lent ≡ start → length bytes ≡ table_length narrow n
whole n laid same begins e = ap length same ∙ e ∙ (rw laid at begins)

pub row_start-requires : goal.row_start-requires
row_start-requires c = (rw c.of-table.result.laid readable, ((sound_exact _).0 c.requires.0).routers_most)

pub returns-then-length-row_start : goal.returns-then-length-row_start
returns-then-length-row_start c =
    let start = rw c.of-table.result.laid at c.row_start.ensures in
    ap refused c.at.ensures ∙ wrong_length _ _ (λ e. c.if-length-row_start.true (e ∙ sym start))

pub header_is_sound-requires : goal.header_is_sound-requires
unfolding row_start_lem
header_is_sound-requires c =
    omega (arith, whole _ c.of-table.result.laid c.of-table.ensures c.row_start.ensures c.if-length-row_start.false)

pub returns-then-not-header_is_sound : goal.returns-then-not-header_is_sound
returns-then-not-header_is_sound c =
    let long = whole _ c.of-table.result.laid c.of-table.ensures c.row_start.ensures c.if-length-row_start.false in
    ap refused c.at-then-not-header_is_sound.ensures
    ∙ wrong_start _ _ long (λ h. off c.if-not-header_is_sound.ensures (both (sound_header c.args.t.now.routers c.of-table.result.bytes.now) _ h).0)
    ∙ ap (table_judging c.args.t.now) c.of-table.ensures

pub destination-destination-requires : goal.destination-destination-requires
unfolding row_start_lem
destination-destination-requires c =
    omega (arith, whole _ c.of-table.result.laid c.of-table.ensures c.row_start.ensures c.if-length-row_start.false)

pub order_of-places-requires : goal.order_of-places-requires
order_of-places-requires c =
    (((sound_exact _).0 c.requires.0).routers_most, whole _ c.of-table.result.laid c.of-table.ensures c.row_start.ensures c.if-length-row_start.false)

pub slice_bounds-places-end : goal.slice_bounds-places-end
slice_bounds-places-end c = begins_with _ _ _ c.order_of-places.ensures

pub slice_bounds-order-end : goal.slice_bounds-order-end
slice_bounds-order-end c = sym (length-take-le _ _ (begins_with _ _ _ c.order_of-places.ensures))

pub to-ds-requires : goal.to-ds-requires
to-ds-requires c =
    let place = header_destination _ c.requires.0 _ (on c.if-not-header_is_sound.ensures) in
    ((c.args.t.now, laid_out c.requires.0 c.requires.1), rw c.destination-destination.ensures place)

pub judge-judged-requires : goal.judge-judged-requires
judge-judged-requires c =
    let place = header_destination _ c.requires.0 _ (on c.if-not-header_is_sound.ensures) in
    placed_at c.requires.0 (rw c.destination-destination.ensures place) c.requires.1 c.to-ds.ensures

pub returns-then-is_err : goal.returns-then-is_err
returns-then-is_err c =
    let bytes = c.of-table.result.bytes.now in
    let long = whole _ c.of-table.result.laid c.of-table.ensures c.row_start.ensures c.if-length-row_start.false in
    let place = header_destination _ c.requires.0 _ (on c.if-not-header_is_sound.ensures) in
    let judged = rw (c.destination-destination.ensures, c.order_of-places.ensures) at c.judge-judged.ensures in
    let failed = err_number c.judge-judged.result (sym c.is_err.ensures.value ∙ c.if-is_err.true) in
    ap refused c.at-then-is_err.ensures
    ∙ wrong_start _ _ long
    (λ h. ranks_fail _ c.requires.0 _ place bytes refl (λ z. failed (ap (λ (a : Answer). a.number) judged ∙ z)) (both (sound_header c.args.t.now.routers bytes) _ h).1)
    ∙ ap (table_judging c.args.t.now) c.of-table.ensures

pub first_wrong-requires : goal.first_wrong-requires
first_wrong-requires c =
    let bytes = c.of-table.result.bytes.now in
    let place = header_destination _ c.requires.0 _ (on c.if-not-header_is_sound.ensures) in
    let judged = rw (c.destination-destination.ensures, c.order_of-places.ensures) at c.judge-judged.ensures in
    let passed = ok_number c.judge-judged.result (sym c.is_err.ensures.value ∙ c.if-is_err.false) in
    let (acc, are) = ranks_pass _ c.requires.0 _ place bytes refl (ap (λ (a : Answer). a.number) (sym judged) ∙ passed) in
    record {
      measured = placed_at c.requires.0 place c.requires.1 (rw c.destination-destination.ensures at c.to-ds.ensures);
      long = whole _ c.of-table.result.laid c.of-table.ensures c.row_start.ensures c.if-length-row_start.false;
      header = on c.if-not-header_is_sound.ensures;
      in_free = acc;
      order_is = c.order_of-places.ensures;
      bytes_are = are;
    }

pub returns-in-Some : goal.returns-in-Some
returns-in-Some c =
    let long = whole _ c.of-table.result.laid c.of-table.ensures c.row_start.ensures c.if-length-row_start.false in
    ap refused c.at-in-Some.ensures ∙ wrong_at _ _ long (on c.if-not-header_is_sound.ensures) _ c.in-Some.ensures
    ∙ ap (table_judging c.args.t.now) c.of-table.ensures

pub returns-in-None : goal.returns-in-None
returns-in-None c =
    let long = whole _ c.of-table.result.laid c.of-table.ensures c.row_start.ensures c.if-length-row_start.false in
    none_at _ _ long (on c.if-not-header_is_sound.ensures) c.in-None.ensures ∙ ap (table_judging c.args.t.now) c.of-table.ensures
