-- What a board brings to a run, and what the event of a script line does to its tasks.
use Rattle.std.specs.Prelude.{Bool, true, List, []}
use Rattle.pm_base.specs.declared.events.Event.{Event}
use Rattle.pm_base.specs.declared.events.Event.TheVariants.{Task, Cancel, Tick}
use Rattle.pm_modules.specs.Ranges.{Ranged}
use Rattle.pm_tasks.specs.Timetable.{Timetable, advanced, can_start, cancelled, is_stored, passing, started}

-- the ranges of the modules, each with what its handler says, and the tasks
pub record Standing : Type 0 where
  pub modules : List Ranged
  pub tasks : Timetable

-- tasks of which no call is left
abbrev pub settled : Timetable → Timetable
settled t = record t { left = [] }

-- an event of a script line, with the calls that are due then still to be made
abbrev pub begun : Event → Timetable → Timetable
begun (Task key interval) t = started key interval t
begun (Cancel key) t = cancelled key t
begun (Tick count) t = advanced (passing count t) t
begun event t = t

-- there is a task to start at an interval that isn't 0, or to take out, if the event asks for that
abbrev pub is_done : Event → Timetable → Bool
is_done (Task key interval) t = can_start key interval t
is_done (Cancel key) t = is_stored key t
is_done event t = true

-- the board after the event of a line, with the calls made that were due
abbrev pub board_after : Event → Standing → Standing
board_after event board = record board { tasks = settled (begun event (settled board.tasks)) }
