use Rattle.std.proofs.Common.{sym}
use Rattle.pm_tasks.specs.Stored.{timed}
use Rattle.pm_tasks.proofs.Tables as table
use Rattle.pm_tasks.proofs.tasks.TasksOf.cancel.Goals as goal

pub returns-in-Some-clause-answer : goal.returns-in-Some-clause-answer
returns-in-Some-clause-answer g c = table.cancels (timed g.H.Handler) c.args.self.now.before c.args.self.now.time c.args.self.now.next c.args.self.now.limit c.args.self.now.tasks.slots c.args.key _ c.requires (sym c.in-Some.ensures.value)

pub returns-in-Some-clause-cancelled : goal.returns-in-Some-clause-cancelled
returns-in-Some-clause-cancelled g c = table.cancelled_table (timed g.H.Handler) c.args.self.now.before c.args.self.now.time c.args.self.now.next c.args.self.now.limit c.args.self.now.tasks.slots c.args.key _ c.try_remove.new.self.slots c.requires (sym c.in-Some.ensures.value) c.in-Some.ensures.slots

pub returns-in-None-clause-answer : goal.returns-in-None-clause-answer
returns-in-None-clause-answer g c = table.cancels (timed g.H.Handler) c.args.self.now.before c.args.self.now.time c.args.self.now.next c.args.self.now.limit c.args.self.now.tasks.slots c.args.key _ c.requires (sym c.in-None.ensures.value)

pub returns-in-None-clause-cancelled : goal.returns-in-None-clause-cancelled
returns-in-None-clause-cancelled g c = table.nothing_cancelled_table (timed g.H.Handler) c.args.self.now.before c.args.self.now.time c.args.self.now.next c.args.self.now.limit c.args.self.now.tasks.slots c.args.key c.try_remove.new.self.slots c.requires (sym c.in-None.ensures.value) (table.same_slots _ _ c.in-None.ensures.absent)
