use Rattle.std.proofs.Common.{◌∙◌, ap, sym, length}
use Rattle.pm_rows.proofs.Cells.{seen_len, seen_few}
use Rattle.pm_rows.proofs.table.Table.len.Goals as goal

pub returns-clause-len : goal.returns-clause-len
returns-clause-len c =
    ap length c.as_slice.ensures ∙ sym (seen_len c.args.self.now c.self.inside.seeds.items c.self.inside.cells _ (length c.self.inside.users) _ _ c.self.view_is c.self.invariant.0.base)

pub returns-clause-few : goal.returns-clause-few
returns-clause-few c =
    seen_few c.args.self.now c.self.inside.seeds.items c.self.inside.cells _ (length c.self.inside.users) _ _ c.self.view_is c.self.invariant.0.base
