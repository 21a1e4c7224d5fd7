-- The board that modules and tasks are.
use Rattle.pm_modules.specs.declared.modules.ModulesOf.{ModulesOf}
use Rattle.pm_modules.specs.declared.responders.Responder as Responder
use Rattle.pm_modules.specs.Modules.{ranges}
use Rattle.pm_tasks.specs.declared.handler.Handler as Handler
use Rattle.pm_tasks.specs.declared.tasks.TasksOf.{TasksOf}
use Rattle.pm_tasks.specs.Stored.{timetable}
use Rattle.pm_board.specs.Board.{Standing}

module _ {H T : Type 0} (responder : Responder.Ghosts H) (handler : Handler.Ghosts T) where
  abbrev pub standing : ModulesOf H → TasksOf T → Standing
  standing modules tasks = record { modules = ranges responder modules; tasks = timetable handler tasks }
