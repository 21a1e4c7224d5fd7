use Rattle.std.proofs.Common.{◌≡◌, ◌++◌, length, map}
use Rattle.pm_tasks.specs.Stored.{timetable}
use Rattle.pm_tasks.specs.declared.history.Line.TheVariants.{Task}
use Rattle.pm_tasks.proofs.history.take_all.Given as goal

-- the lines written and those of the calls that are left are the lines of all; nothing else changes
abbrev pub invariant-calls : goal.invariant-calls
invariant-calls g l =
    (l.out.items ++ map Task (timetable g.H.Handler l.tasks).left ≡ l.fn.out.items ++ map Task (timetable g.H.Handler l.fn.tasks).left)
    × (timetable g.H.Handler l.tasks ≡ record (timetable g.H.Handler l.fn.tasks) { left = (timetable g.H.Handler l.tasks).left })

abbrev pub decreases-calls : goal.decreases-calls
decreases-calls g l = length (timetable g.H.Handler l.tasks).left
