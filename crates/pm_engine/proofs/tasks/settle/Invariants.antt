use Rattle.std.proofs.Common.{◌≡◌, length}
use Rattle.pm_tasks.specs.Stored.{timetable}
use Rattle.pm_engine.proofs.tasks.settle.Given as goal

-- nothing changes but the calls that are left
abbrev pub invariant-calls : goal.invariant-calls
invariant-calls g l =
    timetable g.T.Handler l.tasks ≡ record (timetable g.T.Handler l.fn.tasks) { left = (timetable g.T.Handler l.tasks).left }

abbrev pub decreases-calls : goal.decreases-calls
decreases-calls g l = length (timetable g.T.Handler l.tasks).left
