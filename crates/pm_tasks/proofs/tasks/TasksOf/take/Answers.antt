use Rattle.std.proofs.Common.{refl, sym}
use Rattle.pm_tasks.specs.Stored.{timed}
use Rattle.pm_tasks.proofs.Tables as table
use Rattle.pm_tasks.proofs.tasks.TasksOf.take.Goals as goal

pub returns-in_err-task-clause-none : goal.returns-in_err-task-clause-none
returns-in_err-task-clause-none g c = absurd (table.due_is_there (timed g.H.Handler) c.args.self.now.before c.args.self.now.time c.args.self.now.next c.args.self.now.limit c.args.self.now.tasks.slots c.in-Some.key (sym c.in_err-task.ensures.value) c.in-Some.ensures.due)

pub returns-in_err-task-clause-done : goal.returns-in_err-task-clause-done
returns-in_err-task-clause-done g c = absurd (table.due_is_there (timed g.H.Handler) c.args.self.now.before c.args.self.now.time c.args.self.now.next c.args.self.now.limit c.args.self.now.tasks.slots c.in-Some.key (sym c.in_err-task.ensures.value) c.in-Some.ensures.due)

pub returns-clause-one : goal.returns-clause-one
returns-clause-one g c = table.taken_one (timed g.H.Handler) c.args.self.now.before c.args.self.now.time c.in-Some.key c.args.self.now.limit c.args.self.now.tasks.slots c.args.self.now.next c.fire-word.result c.in_ok-task.task.now c.fire-word.new.self c.in-Some.ensures.passed (sym c.in_ok-task.ensures.value) c.in-Some.ensures.due c.fire-word.ensures.called c.fire-word.ensures.answer

pub returns-clause-rest : goal.returns-clause-rest
returns-clause-rest g c = rw (table.taken_rest (timed g.H.Handler) c.args.self.now.before c.args.self.now.time c.in-Some.key c.args.self.now.limit c.args.self.now.tasks.slots c.args.self.now.next c.in_ok-task.task.now c.fire-word.new.self c.in-Some.ensures.passed (sym c.in_ok-task.ensures.value) c.in-Some.ensures.due c.fire-word.ensures.called) refl

pub returns-in_default-clause-rest : goal.returns-in_default-clause-rest
returns-in_default-clause-rest g c = rw (table.ended_slots (timed g.H.Handler) c.args.self.now.before c.args.self.now.time c.args.self.now.next c.args.self.now.limit c.args.self.now.tasks.slots c.capacity-self.result c.in_default.ensures.none c.capacity-self.ensures.slots) refl
