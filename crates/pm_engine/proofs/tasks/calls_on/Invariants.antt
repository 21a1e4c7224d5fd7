use Rattle.std.proofs.Common.{◌≡◌, length}
use Rattle.pm_tasks.specs.Stored.{timetable}
use Rattle.pm_engine.proofs.TasksLemmas.{AreCalled}
use Rattle.pm_engine.proofs.tasks.calls_on.Given as goal

-- nothing changes but the calls that are left, and those that were made are written
abbrev pub invariant-calls : goal.invariant-calls
invariant-calls g l =
    (timetable g.T.Handler l.tasks ≡ record (timetable g.T.Handler l.fn.tasks) { left = (timetable g.T.Handler l.tasks).left })
    × AreCalled g.O.Sink l.number (timetable g.T.Handler l.fn.tasks).left (timetable g.T.Handler l.tasks).left l.fn.written l.so_far l.fn.out l.out

abbrev pub decreases-calls : goal.decreases-calls
decreases-calls g l = length (timetable g.T.Handler l.tasks).left
