-- What a script line writes of tasks.
use Rattle.std.specs.Prelude.{List, [], ◌∷◌, ◌++◌, map, if◌then◌else◌}
use Rattle.pm_base.specs.declared.events.Event.{Event}
use Rattle.pm_base.specs.declared.events.Event.TheVariants.{Task, Cancel}
use Rattle.pm_tasks.specs.declared.tasks.Fired.{Fired}
use Rattle.pm_tasks.specs.Timetable.{Timetable}
use Rattle.pm_board.specs.Board.{begun, is_done, settled}
use Rattle.pm_split.specs.Split.{Note}
use Rattle.pm_split.specs.Split.Note.{NoTask, Fired as Told}

-- that no task could be started or taken out under the key of the line, if it has one
abbrev pub key_notes : Event → List Note
key_notes (Task key interval) = NoTask key ∷ []
key_notes (Cancel key) = NoTask key ∷ []
key_notes event = []

-- nothing where it could be started or taken out
abbrev pub refusal_notes : Event → Timetable → List Note
refusal_notes event t = if is_done event t then [] else key_notes event

-- that a task was called, at which time and with which answer
abbrev pub fired_note : Fired → Note
fired_note fired = Told fired.key fired.at fired.word

-- what a line writes of tasks that stand so: that there was none under its key, and each call that is due, by rising key
abbrev pub task_notes : Event → Timetable → List Note
task_notes event t = refusal_notes event t ++ map fired_note (begun event (settled t)).left
