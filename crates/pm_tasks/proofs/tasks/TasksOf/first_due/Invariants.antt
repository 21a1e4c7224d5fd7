use Rattle.std.proofs.Common.{◌≡◌}
use Rattle.pm_tasks.specs.Stored.{seen, stored, timetable}
use Rattle.pm_tasks.proofs.tasks.TasksOf.first_due.Given as goal

-- the tasks below the key are passed over
abbrev pub invariant-loop-key : goal.invariant-loop-key
invariant-loop-key g l = seen l.self.before l.self.time l.key l.self.limit (stored g.H.Handler l.self.tasks) ≡ timetable g.H.Handler l.self
