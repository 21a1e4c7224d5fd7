use Rattle.std.proofs.Common.{◌+◌, ◌*◌, ◌≤◌, subst, arith}
use Rattle.std.specs.Prelude.{count_by}
use Rattle.pm_rows.specs.Rows.{Rows, is_at}
use Rattle.pm_rows.specs.Counted.{permitted_on}
use Rattle.pm_rows.proofs.Turns.{change_costs}
use Rattle.pm_rows.proofs.rows.Rows.change.Goals as goal

pub returns-clause-cost : goal.returns-clause-cost
returns-clause-cost g c =
    let P : Rows → Type 0 = λ rows. count_by (is_at c.args.master c.args.slave) rows.entries ≤ 1
    → c.pass_over.new.steps ≤ c.args.steps.now + (2 * permitted_on c.args.slave rows.entries + 4)
    in
    subst P c.self.view_is
    (λ once. let cost = change_costs c.args.master c.args.slave c.args.by c.deref.result.now c.self.inside.table.entries once in omega (arith, c.pass_over.ensures.cost, cost))
