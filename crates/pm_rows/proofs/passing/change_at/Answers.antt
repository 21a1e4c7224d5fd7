use Rattle.std.proofs.Common.{subst, sym}
use Rattle.pm_rows.specs.declared.passes.Pass.TheVariants.{One}
use Rattle.pm_rows.specs.declared.row.Change.{Change}
use Rattle.pm_rows.specs.Passing.{PutsAt}
use Rattle.pm_rows.proofs.passing.change_at.Goals as goal

pub returns-in-Request : goal.returns-in-Request
returns-in-Request g c =
    let P : Change → Type 0 = λ by. PutsAt (One c.args.master c.args.slave by) c.args.known.now c.args.k c.args.table.now c.args.steps.now c.request_at.new.table c.request_at.new.steps in
    subst P (sym c.in-Request.is) (c.request_at.ensures c.args.master c.args.slave)

pub returns-in-Release : goal.returns-in-Release
returns-in-Release g c =
    let P : Change → Type 0 = λ by. PutsAt (One c.args.master c.args.slave by) c.args.known.now c.args.k c.args.table.now c.args.steps.now c.release_at.new.table c.release_at.new.steps in
    subst P (sym c.in-Release.is) (c.release_at.ensures c.args.master c.args.slave)

pub returns-in-Set : goal.returns-in-Set
returns-in-Set g c =
    let P : Change → Type 0 = λ by. PutsAt (One c.args.master c.args.slave by) c.args.known.now c.args.k c.args.table.now c.args.steps.now c.set_at.new.table c.set_at.new.steps in
    subst P (sym c.in-Set.is) (c.set_at.ensures c.args.master c.args.slave)

pub returns-in-Limit : goal.returns-in-Limit
returns-in-Limit g c =
    let P : Change → Type 0 = λ by. PutsAt (One c.args.master c.args.slave by) c.args.known.now c.args.k c.args.table.now c.args.steps.now c.limit_at.new.table c.limit_at.new.steps in
    subst P (sym c.in-Limit.is) (c.limit_at.ensures c.args.master c.args.slave)

pub returns-in-Arm : goal.returns-in-Arm
returns-in-Arm g c =
    let P : Change → Type 0 = λ by. PutsAt (One c.args.master c.args.slave by) c.args.known.now c.args.k c.args.table.now c.args.steps.now c.arm_at.new.table c.arm_at.new.steps in
    subst P (sym c.in-Arm.is) (c.arm_at.ensures c.args.master c.args.slave)
