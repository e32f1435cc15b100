-- A link less is left behind the first of those that are left.
-- Assumes nothing.
use Rattle.std.proofs.Common.{◌≡◌, suc, ◌+◌, ◌-◌, sym, ◌∙◌, arith}
use Rattle.std.proofs.lemmas.List.{take_rest}
use Rattle.ospf_lsas.proofs.Links.{one_more, no_more, none_left, link_there, none_there}
use Rattle.ospf_lsas.proofs.formed.are_links.Goals as goal

pub slice_bounds-rest-count : goal.slice_bounds-rest-count
slice_bounds-rest-count c = (link_there c.loop.rest.now c.in-Some.length c.in-Some.ensures).2

pub slice_bounds-rest-start : goal.slice_bounds-rest-start
slice_bounds-rest-start c = (link_there c.loop.rest.now c.in-Some.length c.in-Some.ensures).2

pub returns-in-None : goal.returns-in-None
returns-in-None c =
    let rest = c.loop.rest.now in
    let one : c.args.number - c.loop.counter ≡ suc (c.args.number - (c.loop.counter + 1)) = omega arith in
    sym (no_more (c.args.number - (c.loop.counter + 1)) rest (none_there rest c.in-None.ensures)) ∙ (rw one at c.loop.invariant)

pub loop-preserved : goal.loop-preserved
loop-preserved c =
    let rest = c.loop.rest.now in
    let l = link_there rest c.in-Some.length c.in-Some.ensures in
    let one : c.args.number - c.loop.counter ≡ suc (c.args.number - (c.loop.counter + 1)) = omega arith in
    rw (take_rest, l.1) (sym (one_more (c.args.number - (c.loop.counter + 1)) rest l.0) ∙ (rw one at c.loop.invariant))

pub returns : goal.returns
returns c =
    let none : c.args.number - c.loop.counter ≡ 0 = omega arith in
    c.is_empty.ensures ∙ sym (none_left c.loop.rest.now) ∙ (rw none at c.loop.invariant)
