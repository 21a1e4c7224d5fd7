use Rattle.std.proofs.Common.{◌∙◌, length, refl}
use Rattle.pm_rows.proofs.Cells.{seen_all, seen_narrow}
use Rattle.pm_rows.proofs.ByCounts.{counts_tell}
use Rattle.pm_rows.proofs.table.Table.wanted.Goals as goal

pub returns-then-self : goal.returns-then-self
returns-then-self c =
    c.counted.ensures
    ∙ counts_tell c.args.slave c.args.known.now c.args.self.now.entries c.args.self.now.tally c.requires
    (seen_narrow c.args.self.now c.self.inside.seeds.items c.self.inside.cells _ _ _ c.self.view_is (c.self.invariant.0.narrow_ones c.if-self.true))
    (seen_all c.args.self.now c.self.inside.seeds.items c.self.inside.cells _ (length c.self.inside.users) _ _ c.self.view_is c.self.invariant.0.base refl)
