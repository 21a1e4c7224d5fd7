use Rattle.std.proofs.Common.{sym, arith}
use Rattle.pm_power.proofs.NeedsSet.{cost_at_is, past_last, put_is}
use Rattle.pm_power.proofs.power.put_at.Goals as goal

pub returns-then-place-children-clause-children : goal.returns-then-place-children-clause-children
returns-then-place-children-clause-children g c =
    put_is c.args.children.now c.args.place c.args.on c.put_need.new.children c.args.powers.now _ c.put_need.new.steps c.put_need.ensures.children

pub returns-else-place-children-clause-children : goal.returns-else-place-children-clause-children
returns-else-place-children-clause-children g c =
    sym (past_last c.args.children.now c.args.place c.args.on (omega (arith, c.if-place-children.false)))

pub returns-then-place-children-clause-cost : goal.returns-then-place-children-clause-cost
returns-then-place-children-clause-cost g c =
    let put = c.put_need.ensures.children in
    omega (arith, put.cost, cost_at_is c.args.powers.now c.args.children.now c.args.place c.args.on put.child put.here)
