-- What a list of events writes of tasks, and what it leaves.
use Rattle.std.specs.Prelude.{ℕ, List, [], ◌∷◌, ◌++◌, map, if◌then◌else◌, Bool}
use Rattle.pm_tasks.specs.Timetable.{Timetable, can_start, is_stored, started, cancelled, advanced, passing}
use Rattle.pm_tasks.specs.declared.history.Happening.{Happening}
use Rattle.pm_tasks.specs.declared.history.Happening.TheVariants.{Start, Cancel, Tick}
use Rattle.pm_tasks.specs.declared.history.Line.{Line}
use Rattle.pm_tasks.specs.declared.history.Line.TheVariants.{Task, NoTask}

-- no line if it is done, else one that says that no task has the key
abbrev pub unless : Bool → ℕ → List Line
unless done key = if done then [] else NoTask key ∷ []

-- the tasks after an event, when no call is left
abbrev pub after : Happening → Timetable → Timetable
after (Start key interval) t = started key interval t
after (Cancel key) t = cancelled key t
after (Tick count) t = record (advanced (passing count t) t) { left = [] }

-- the lines of an event
abbrev pub lines : Happening → Timetable → List Line
lines (Start key interval) t = unless (can_start key interval t) key
lines (Cancel key) t = unless (is_stored key t) key
lines (Tick count) t = map Task (advanced (passing count t) t).left

-- the tasks after a whole list of events, when no call is left
abbrev pub after_all : List Happening → Timetable → Timetable
after_all [] t = t
after_all (event ∷ events) t = after_all events (after event t)

-- the lines of a whole list of events
abbrev pub history : List Happening → Timetable → List Line
history [] t = []
history (event ∷ events) t = lines event t ++ history events (after event t)
