use Rattle.std.proofs.Common.{sym, ◌∙◌}
use Rattle.pm_tasks.specs.Stored.{timed}
use Rattle.pm_tasks.proofs.Tables as table
use Rattle.pm_tasks.proofs.tasks.TasksOf.is_due.Goals as goal

pub returns-in-Some : goal.returns-in-Some
returns-in-Some g c = c.is_due.ensures ∙ table.due_there (timed g.H.Handler) c.args.self.now.before c.args.self.now.time c.args.self.now.next c.args.self.now.limit c.args.self.now.tasks.slots c.args.key c.in-Some.task.now (sym c.in-Some.ensures)

pub returns-in-None : goal.returns-in-None
returns-in-None g c = table.due_nowhere (timed g.H.Handler) c.args.self.now.before c.args.self.now.time c.args.self.now.next c.args.self.now.limit c.args.self.now.tasks.slots c.args.key (sym c.in-None.ensures)
