use Rattle.std.proofs.Common.{◌∙◌, sym}
use Rattle.pm_rows.proofs.Linked.{visits_left, visits_put}
use Rattle.pm_rows.proofs.passing.visit.Goals as goal

pub returns-then-touches : goal.returns-then-touches
returns-then-touches g c =
    visits_put c.args.pass c.args.known.now c.args.k c.args.table.now c.args.steps.now c.pass_at.new.table c.pass_at.new.steps c.seed-seed.result
    c.seed-seed.ensures (sym c.touches.ensures ∙ c.if-touches.true) c.pass_at.ensures

pub returns-else-touches : goal.returns-else-touches
returns-else-touches g c =
    visits_left c.args.pass c.args.known.now c.args.k c.args.table.now c.args.steps.now c.seed-seed.result
    c.seed-seed.ensures (sym c.touches.ensures ∙ c.if-touches.false)
