-- Each end is the first test that fails, and the last none.
-- Assumes nothing.
use Rattle.std.proofs.Common.{◌∙◌, sym, ap, arith, Some}
use Rattle.ospf_lsas.proofs.Malformed.{refuses, too_short, cut-short, no_length, other_type, no_links, answers}
use Rattle.ospf_lsas.proofs.formed.length_of.Goals as goal

pub returns-then-s-lt24 : goal.returns-then-s-lt24
returns-then-s-lt24 c = let s = c.args.s.now in refuses s (too_short s (omega arith))

pub returns-then-s-length : goal.returns-then-s-length
returns-then-s-length c = let s = c.args.s.now in refuses s (cut-short s (omega arith) (omega arith))

pub returns-then-length-lt24 : goal.returns-then-length-lt24
returns-then-length-lt24 c = let s = c.args.s.now in refuses s (no_length s (omega arith) (omega arith) (omega arith))

pub returns-then-s-ne1 : goal.returns-then-s-ne1
returns-then-s-ne1 c =
    let s = c.args.s.now in
    refuses s (other_type s (omega arith) (omega arith) (omega arith) c.if-s-ne1.true)

pub returns-then-are_links : goal.returns-then-are_links
returns-then-are_links c =
    let s = c.args.s.now in
    let are = rw (c.from-length.ensures, c.be16.ensures, c.be16-number.ensures) at (sym c.are_links.ensures ∙ c.if-are_links.true) in
    ap Some (c.from-length.ensures ∙ c.be16.ensures) ∙ answers s (omega arith) (omega arith) (omega arith) (omega arith) are

pub returns-else-are_links : goal.returns-else-are_links
returns-else-are_links c =
    let s = c.args.s.now in
    let are = rw (c.from-length.ensures, c.be16.ensures, c.be16-number.ensures) at (sym c.are_links.ensures ∙ c.if-are_links.false) in
    refuses s (no_links s (omega arith) (omega arith) (omega arith) (omega arith) are)
