use Rattle.std.proofs.Common.{◌≡◌, []}
use Rattle.pm_tasks.specs.Stored.{timetable}
use Rattle.pm_tasks.specs.contracts.handler.BoxDynHandlerHandler.TheImpl as boxed
use Rattle.test_handlers.proofs.tasks.counting.Given as goal

-- no call is left, and no time has passed
abbrev pub invariant-loop-added : goal.invariant-loop-added
invariant-loop-added g l =
    ((timetable (boxed.ghosts g.dyn-1) l.tasks).left ≡ [])
    × ((timetable (boxed.ghosts g.dyn-1) l.tasks).now ≡ 0)
