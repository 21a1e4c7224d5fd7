use Rattle.std.proofs.Common.{refl, sym, ◌∙◌}
use Rattle.pm_tasks.specs.Stored.{timed}
use Rattle.pm_tasks.proofs.Tables as table
use Rattle.pm_tasks.proofs.Tables.{le_trans}
use Rattle.pm_tasks.proofs.tasks.TasksOf.first_due.Goals as goal

pub loop-key-init : goal.loop-key-init
loop-key-init g c = refl

pub loop-key-preserved : goal.loop-key-preserved
loop-key-preserved g c = table.passed_table (timed g.H.Handler) c.args.self.now.before c.args.self.now.time c.loop-key.key c.args.self.now.limit c.args.self.now.tasks.slots (sym c.is_due.ensures ∙ c.if-is_due.false) ∙ c.loop-key.invariant

pub returns-clause-none : goal.returns-clause-none
returns-clause-none g c = table.none_past_end (timed g.H.Handler) c.args.self.now.before c.args.self.now.time c.loop-key.key c.args.self.now.limit c.args.self.now.tasks.slots c.args.self.now.next c.loop-key.invariant (le_trans c.capacity-key-end.ensures.slots c.loop-key-test.false)
