use Rattle.std.proofs.Common.{length, refl}
use Rattle.pm_rows.proofs.Cells.{seen_all, seen_few}
use Rattle.pm_rows.proofs.table.Table.users.Goals as goal

pub returns-then-slave-len-clause-placed : goal.returns-then-slave-len-clause-placed
returns-then-slave-len-clause-placed c =
    seen_all c.args.self.now c.self.inside.seeds.items c.self.inside.cells _ (length c.self.inside.users) _ _ c.self.view_is c.self.invariant.0.base refl

pub returns-then-slave-len-clause-few : goal.returns-then-slave-len-clause-few
returns-then-slave-len-clause-few c =
    seen_few c.args.self.now c.self.inside.seeds.items c.self.inside.cells _ (length c.self.inside.users) _ _ c.self.view_is c.self.invariant.0.base

pub returns-else-slave-len-clause-placed : goal.returns-else-slave-len-clause-placed
returns-else-slave-len-clause-placed c =
    seen_all c.args.self.now c.self.inside.seeds.items c.self.inside.cells _ (length c.self.inside.users) _ _ c.self.view_is c.self.invariant.0.base refl

pub returns-else-slave-len-clause-few : goal.returns-else-slave-len-clause-few
returns-else-slave-len-clause-few c =
    seen_few c.args.self.now c.self.inside.seeds.items c.self.inside.cells _ (length c.self.inside.users) _ _ c.self.view_is c.self.invariant.0.base
