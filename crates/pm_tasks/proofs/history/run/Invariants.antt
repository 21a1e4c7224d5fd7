use Rattle.std.proofs.Common.{◌≡◌, ◌++◌, [], drop}
use Rattle.pm_tasks.specs.Stored.{timetable}
use Rattle.pm_tasks.specs.History.{after_all, history}
use Rattle.pm_tasks.proofs.history.run.Given as goal

-- the lines written and those of the events that are left are the lines of all
abbrev pub invariant-loop-event : goal.invariant-loop-event
invariant-loop-event g l =
    ((timetable g.H.Handler l.tasks).left ≡ [])
    × (after_all (drop l.event-index l.events) (timetable g.H.Handler l.tasks) ≡ after_all l.events (timetable g.H.Handler l.fn.tasks))
    × (l.out.items ++ history (drop l.event-index l.events) (timetable g.H.Handler l.tasks) ≡ l.fn.out.items ++ history l.events (timetable g.H.Handler l.fn.tasks))
