-- Each end knows where the metric lies, and a bandwidth that is there costs something.
-- Assumes nothing.
use Rattle.std.proofs.Common.{◌≡◌, ◌≤◌, ap, sym, ◌∙◌, rules}
use Rattle.te.specs.Cost.{record_cost, some_cost}
use Rattle.te.proofs.Costs.{is_one, is_none, by_metric, by_maximum, by_none, outside}
use Rattle.te.proofs.Greatest.{costs_something}
use Rattle.te.proofs.LinkRecord.cost.Goals as goal

pub returns-then-contains : goal.returns-then-contains
returns-then-contains c =
    let r = c.args.self in
    let low : 1 ≤ r.metric = search rules in
    let high : r.metric ≤ 65535 = search rules in
    is_one r.metric low ∙ sym (ap some_cost (by_metric r low high))

pub returns-then-self : goal.returns-then-self
returns-then-self c =
    let r = c.args.self in
    let beyond : 1 ≤ r.metric → r.metric ≤ 65535 → ⊥ = λ low high. search rules in
    let is : c.cost_by.result ≡ record_cost r = c.cost_by.ensures ∙ sym (outside r beyond ∙ by_maximum r c.if-self.true) in
    rw is (is_one (record_cost r) (rw (← is, c.cost_by.ensures) (costs_something r.maximum (c.requires.maximum_present c.if-self.true))))

pub returns-else-self : goal.returns-else-self
returns-else-self c =
    let r = c.args.self in
    let beyond : 1 ≤ r.metric → r.metric ≤ 65535 → ⊥ = λ low high. search rules in
    is_none (record_cost r) (outside r beyond ∙ by_none r c.if-self.false)
