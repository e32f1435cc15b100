-- The table that was built is the destination's, and the greatest hop counts over it stand by place, so the lines of the table are those of the destination.
-- Assumes nothing.
use Rattle.std.proofs.Common.{arith, ◌≡◌, ◌∙◌, take, ap, sym, length-take-le}
use Rattle.topology_sound.proofs.Sound.{sound_exact}
use Rattle.order.specs.Calls.{mode_of}
use Rattle.listing_rules.specs.Listing.{table_for}
use Rattle.listing_rules.proofs.Tables.{accepted, counted, counts, listable, lines}
use Rattle.report.proofs.unchecked.put_lines.Goals as goal

pub greatest_hops-requires : goal.greatest_hops-requires
unfolding table_for mode_of
greatest_hops-requires c =
    let (good, laid, place, room) = c.requires in
    let e : c.as_slice-table.result.now ≡ table_for c.args.t.now c.args.destination.0 = c.as_slice-table.ensures ∙ c.build-built.ensures in
    (good, rw e (accepted _ good _ place), omega (arith, ((sound_exact _).0 good).routers_most))

pub slice_bounds-hops-end : goal.slice_bounds-hops-end
slice_bounds-hops-end c =
    let (good, laid, place, room) = c.requires in
    omega (arith, ((sound_exact _).0 good).routers_most)

pub slice_bounds-put_table-end : goal.slice_bounds-put_table-end
slice_bounds-put_table-end c =
    let (good, laid, place, room) = c.requires in
    sym (length-take-le c.args.t.now.routers c.greatest_hops.new.out (omega (arith, ((sound_exact _).0 good).routers_most)))

pub put_table-requires : goal.put_table-requires
unfolding table_for mode_of
put_table-requires c =
    let (good, laid, place, room) = c.requires in
    let t = c.args.t.now in
    let d = c.args.destination.0 in
    let e : c.as_slice-table.result.now ≡ table_for t d = c.as_slice-table.ensures ∙ c.build-built.ensures in
    let hops = ap (take t.routers) (rw e at c.greatest_hops.ensures) ∙ counts t good d place _ in
    let n = counted t good d place in
    let most = ((sound_exact t).0 good).routers_most in
    (rw (c.of.ensures, e, hops, n) (listable t good d place), rw (hops, n) (omega (arith, most)))

pub returns : goal.returns
unfolding table_for mode_of
returns c =
    let (good, laid, place, room) = c.requires in
    let t = c.args.t.now in
    let d = c.args.destination.0 in
    let e : c.as_slice-table.result.now ≡ table_for t d = c.as_slice-table.ensures ∙ c.build-built.ensures in
    let hops = ap (take t.routers) (rw e at c.greatest_hops.ensures) ∙ counts t good d place _ in
    rw (← lines t good d place) (rw (c.of.ensures, e, hops, counted t good d place) at c.put_table.ensures)
