use Rattle.pm_tasks.specs.Stored.{timed}
use Rattle.pm_tasks.proofs.Tables as table
use Rattle.pm_tasks.proofs.tasks.TasksOf.advance.Goals as goal

pub returns : goal.returns
returns g c = table.advanced_table (timed g.H.Handler) c.args.self.now.before c.args.self.now.time c.args.self.now.next c.args.self.now.limit c.args.self.now.tasks.slots c.args.count c.requires.settled
