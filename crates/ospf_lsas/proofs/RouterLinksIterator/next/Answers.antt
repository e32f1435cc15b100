-- The link handed on is the first of those that are left.
-- Assumes nothing.
use Rattle.std.proofs.Common.{◌<◌, ◌-◌, length, ap, arith, rules}
use Rattle.ospf_lsas.specs.Lsa.{links_in, all_of}
use Rattle.ospf_lsas.proofs.Links.{next_link, no_links}
use Rattle.ospf_lsas.proofs.RouterLinksIterator.next.Goals as goal

pub returns-then-self-eq0-clause-steps : goal.returns-then-self-eq0-clause-steps
returns-then-self-eq0-clause-steps c =
    let e = no_links c.args.self.now.rest.now in
    rw c.if-self-eq0.true (e, e)

pub be32-requires : goal.be32-requires
be32-requires c = let s = c.args.self.now in let n = next_link s.left s.rest.now c.if-self-eq0.false s.formed in omega (arith, n.whole.fits)

pub bounds-self-8 : goal.bounds-self-8
bounds-self-8 c = let s = c.args.self.now in let n = next_link s.left s.rest.now c.if-self-eq0.false s.formed in omega (arith, n.whole.fits)

pub be16-requires : goal.be16-requires
be16-requires c = let s = c.args.self.now in let n = next_link s.left s.rest.now c.if-self-eq0.false s.formed in omega (arith, n.whole.fits)

pub bounds-self-9 : goal.bounds-self-9
bounds-self-9 c = let s = c.args.self.now in let n = next_link s.left s.rest.now c.if-self-eq0.false s.formed in omega (arith, n.whole.fits)

pub split_at-requires : goal.split_at-requires
split_at-requires c =
    let s = c.args.self.now in
    let n = next_link s.left s.rest.now c.if-self-eq0.false s.formed in
    omega (arith, n.whole.fits, c.from.ensures)

pub invariant_of-self : goal.invariant_of-self
invariant_of-self c =
    let s = c.args.self.now in
    let n = next_link s.left s.rest.now c.if-self-eq0.false s.formed in
    record { formed = rw (c.split_at.ensures.back, c.from.ensures) n.others }

pub returns-clause-steps : goal.returns-clause-steps
returns-clause-steps c =
    let s = c.args.self.now in
    let n = next_link s.left s.rest.now c.if-self-eq0.false s.formed in
    rw (c.split_at.ensures.back, c.from.ensures, c.be32.ensures, c.be16.ensures) n.front

pub returns-clause-goes : goal.returns-clause-goes
returns-clause-goes c =
    let s = c.args.self.now in
    let n = next_link s.left s.rest.now c.if-self-eq0.false s.formed in
    let less : length (all_of (links_in (s.left - 1) c.split_at.result.1.now)) < length (all_of (links_in s.left s.rest.now)) =
    rw (c.split_at.ensures.back, c.from.ensures) (omega (arith, ap length n.front)) in
    record { on = λ f. (search rules, search rules, less); keeps = search rules; rests = λ f. search rules }
