-- The spaces are counted.
-- Assumes nothing.
use Rattle.std.proofs.Common.{◌≡◌, ◌∙◌, sym, rules, nat_eq}
use Rattle.std.specs.List.{count_by}
use Rattle.std.proofs.iter.runs.Made.{chains}
use Rattle.text.proofs.Scan.{spaces_counted}
use Rattle.text.proofs.unchecked.fields.spaces.Goals as goal

pub returns : goal.returns
returns c =
    let e : c.count.result ≡ count_by (λ x. nat_eq x 32) c.args.line.now = search (rules, chains) in
    e ∙ sym (spaces_counted c.args.line.now)
