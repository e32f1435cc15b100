-- The LSA handed on is the first of those that are left.
-- Assumes nothing.
use Rattle.std.proofs.Common.{◌≡◌, ◌≤◌, ◌<◌, ◌+◌, length, refl, ap, arith, rules}
use Rattle.ospf_lsas.specs.Lsa.{lsas_from}
use Rattle.ospf_lsas.proofs.HandedOn.{next_one, no_lsa}
use Rattle.ospf_lsas.proofs.LsasIterator.next.Goals as goal

pub returns-then-is_empty-clause-steps : goal.returns-then-is_empty-clause-steps
returns-then-is_empty-clause-steps c =
    let none : length c.args.self.now.rest.now ≡ 0 = search rules in
    let e = no_lsa c.args.self.now.at c.args.self.now.rest.now none in
    (e, e)

pub be16-length-requires : goal.be16-length-requires
be16-length-requires c =
    let s = c.args.self.now in
    let some : 1 ≤ length s.rest.now = search rules in
    let n = next_one s.at s.rest.now some s.formed _ refl in
    omega (arith, n.begun, n.fits)

pub split_at-requires : goal.split_at-requires
split_at-requires c =
    let s = c.args.self.now in
    let some : 1 ≤ length s.rest.now = search rules in
    let n = next_one s.at s.rest.now some s.formed _ c.be16-length.ensures in
    n.fits

pub invariant_of-self : goal.invariant_of-self
invariant_of-self c =
    let s = c.args.self.now in
    let some : 1 ≤ length s.rest.now = search rules in
    let n = next_one s.at s.rest.now some s.formed _ c.be16-length.ensures in
    record { formed = rw c.split_at.ensures.back n.others; fits = omega (arith, c.split_at.ensures.back_len, s.fits) }

pub invariant_of-lsa : goal.invariant_of-lsa
invariant_of-lsa c =
    let s = c.args.self.now in
    let some : 1 ≤ length s.rest.now = search rules in
    let n = next_one s.at s.rest.now some s.formed _ c.be16-length.ensures in
    record { formed = rw c.split_at.ensures.front n.own }

pub returns-clause-steps : goal.returns-clause-steps
returns-clause-steps c =
    let s = c.args.self.now in
    let some : 1 ≤ length s.rest.now = search rules in
    let n = next_one s.at s.rest.now some s.formed _ c.be16-length.ensures in
    rw (c.split_at.ensures.front, c.split_at.ensures.back) n.front

pub returns-clause-goes : goal.returns-clause-goes
returns-clause-goes c =
    let s = c.args.self.now in
    let some : 1 ≤ length s.rest.now = search rules in
    let n = next_one s.at s.rest.now some s.formed _ c.be16-length.ensures in
    let less : length (lsas_from (s.at + c.be16-length.result) 0 c.split_at.result.1.now) < length (lsas_from s.at 0 s.rest.now) =
    rw c.split_at.ensures.back (omega (arith, ap length n.front)) in
    record { on = λ f. (search rules, search rules, less); keeps = search rules; rests = λ f. search rules }
