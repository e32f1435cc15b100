-- The bytes from 24 to the length are the links.
-- Assumes nothing.
use Rattle.std.proofs.Common.{ap, arith}
use Rattle.ospf_lsas.specs.Lsa.{all_of}
use Rattle.ospf_lsas.proofs.Malformed.{enough, body}
use Rattle.ospf_lsas.proofs.Lsa.links.Goals as goal

pub be16-length-requires : goal.be16-length-requires
be16-length-requires c = omega (arith, enough c.args.self.bytes.now c.args.self.formed)

pub be16-left-requires : goal.be16-left-requires
be16-left-requires c = omega (arith, enough c.args.self.bytes.now c.args.self.formed)

pub slice_bounds-result-count : goal.slice_bounds-result-count
slice_bounds-result-count c = let b = body c.args.self.bytes.now c.args.self.formed in omega (arith, b.begun, c.be16-length.ensures)

pub slice_bounds-result-start : goal.slice_bounds-result-start
slice_bounds-result-start c = let b = body c.args.self.bytes.now c.args.self.formed in omega (arith, b.begun, b.whole)

pub slice_bounds-result-end : goal.slice_bounds-result-end
slice_bounds-result-end c = let b = body c.args.self.bytes.now c.args.self.formed in omega (arith, b.begun, b.whole, c.be16-length.ensures)

pub invariant_of-result : goal.invariant_of-result
invariant_of-result c =
    let b = body c.args.self.bytes.now c.args.self.formed in
    record { formed = rw (c.be16-length.ensures, c.be16-left.ensures) b.are }

pub returns : goal.returns
returns c =
    let b = body c.args.self.bytes.now c.args.self.formed in
    rw (c.be16-length.ensures, c.be16-left.ensures) (ap all_of b.is)
