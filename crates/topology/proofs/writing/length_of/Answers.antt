-- A link takes five bytes, and five more where its costs differ.
-- Assumes nothing.
use Rattle.std.proofs.Common.{◌≤◌, arith}
use Rattle.topology.proofs.WrittenLength.{links_long, links_most}
use Rattle.topology.proofs.writing.length_of.Goals as goal

few : (c : goal.After-count_differing) → c.count_differing.result ≤ 256
few c =
    omega (arith, c.count_differing.ensures, links_long c.args.links.now, links_most c.args.links.now, c.requires)

pub overflow_add-result-2 : goal.overflow_add-result-2
overflow_add-result-2 c = omega (arith, few c, c.requires)

pub overflow_mul-result-2 : goal.overflow_mul-result-2
overflow_mul-result-2 c = omega (arith, few c, c.requires)

pub overflow_add-result-3 : goal.overflow_add-result-3
overflow_add-result-3 c = omega (arith, few c, c.requires)

pub overflow_add-result-4 : goal.overflow_add-result-4
overflow_add-result-4 c = omega (arith, few c, c.requires)

pub returns : goal.returns
returns c = omega (arith, c.count_differing.ensures, links_long c.args.links.now)
