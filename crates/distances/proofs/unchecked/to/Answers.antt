-- `distances::unchecked::to` meets its contract: a turn settles the nearest router that is not settled, and goes against its arcs, which are those of
-- the other ends, of every topology that has these arcs.
-- Assumes nothing.
use Rattle.std.proofs.Common.{◌<◌, arith}
use Rattle.distances.proofs.Laid.{laid_given, laid_fits, laid_passable, runs_begun, runs_near, runs_searched, runs_turned, runs_ended}
use Rattle.distances.proofs.unchecked.to.Goals as goal

pub first-ds-requires : goal.first-ds-requires
first-ds-requires c = let (t, laid) = c.requires.0 in let most = (laid_given laid c.requires.1).within.most in (most, omega (arith, c.requires.1))

pub loop-init : goal.loop-init
loop-init c = runs_begun c.requires.1 (rw c.index.ensures at c.first-ds.ensures) c.places-marks.ensures

pub nearest-u-requires : goal.nearest-u-requires
nearest-u-requires c = runs_searched c.requires.1 c.loop.invariant c.requires.0 c.loop-test.true

inside : (c : goal.After-nearest-u) → c.nearest-u.result < 64
inside c = let (t, laid) = c.requires.0 in (laid_fits laid c.requires.1 c.nearest-u.ensures.place).0

pub bounds-marks-u : goal.bounds-marks-u
bounds-marks-u c = inside c

pub bounds-ds-u : goal.bounds-ds-u
bounds-ds-u c = inside c

pub at-requires : goal.at-requires
at-requires c = let (t, laid) = c.requires.0 in laid_fits laid c.requires.1 c.nearest-u.ensures.place

pub relax-requires : goal.relax-requires
relax-requires c =
    let (t, laid) = c.requires.0 in
    let fits = runs_near c.requires.1 c.loop.invariant c.requires.0 in
    (laid_passable laid c.requires.1 c.nearest-u.ensures.place c.at.ensures fits, fits c.nearest-u.result (laid_fits laid c.requires.1 c.nearest-u.ensures.place).0)

pub loop-preserved : goal.loop-preserved
loop-preserved c = runs_turned c.requires.1 c.loop.invariant c.nearest-u.ensures c.at.ensures c.relax.ensures

pub returns : goal.returns
returns c = runs_ended c.requires.1 c.loop.invariant (omega arith)
