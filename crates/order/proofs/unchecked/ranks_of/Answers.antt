-- `order::unchecked::ranks_of` meets its contract: the place of a turn stands at no rank before, so its rank is this one.
-- Assumes nothing.
use Rattle.std.proofs.Common.{refl, ap, arith}
use mathlib.Core.List.Memᴰ
use lib.ListN.{length-set, get_or-replicate}
use Rattle.network.proofs.Pigeon.{at_most}
use Rattle.topology_types.specs.declared.Rank.{Rank}
use Rattle.order.proofs.Ranking.{place, ranks_more, others_more}
use Rattle.order.proofs.unchecked.ranks_of.Goals as goal

pub loop-rank-init : goal.loop-rank-init
loop-rank-init c = record {
  long = refl;
  ranks = λ v m. absurd (Memᴰ.not-nil m);
  others = λ v h out. ap (λ (x : Rank). x.0) (get_or-replicate 64 v (record { 0 = 255 }) (record { 0 = 0 }) h);
}

pub overflow_cast-by : goal.overflow_cast-by
overflow_cast-by c = let ranked = c.requires in omega (arith, at_most 64 _ ranked.once ranked.places)

pub bounds-by-u : goal.bounds-by-u
bounds-by-u c = place _ c.requires _ c.loop-rank-test.true

pub loop-rank-preserved : goal.loop-rank-preserved
loop-rank-preserved c =
    let at = c.loop-rank in
    let h = c.loop-rank-test.true in
    record {
      long = simp length-set at.invariant.long;
      ranks = ranks_more _ c.requires at.rank h at.by at.invariant.long at.invariant.ranks;
      others = others_more _ c.requires at.rank h at.by at.invariant.long at.invariant.others;
    }
