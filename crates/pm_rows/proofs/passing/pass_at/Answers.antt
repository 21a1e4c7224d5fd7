use Rattle.std.proofs.Common.{subst, sym}
use Rattle.pm_rows.specs.declared.passes.Pass.{Pass}
use Rattle.pm_rows.specs.Passing.{PutsAt}
use Rattle.pm_rows.proofs.passing.pass_at.Goals as goal

pub returns-in-One : goal.returns-in-One
returns-in-One g c =
    let P : Pass → Type 0 = λ pass. PutsAt pass c.args.known.now c.args.k c.args.table.now c.args.steps.now c.change_at.new.table c.change_at.new.steps in
    subst P (sym c.in-One.is) c.change_at.ensures
