-- What is told of driven lines where a board brings modules and tasks: the lines as they are, but that a module's response
-- stands in place of the book's reply to a message of its word, and that a line's notes are followed by those of tasks. In a run
-- they are first told with the clocks of the book.
use Rattle.std.specs.Prelude.{List, [], ◌∷◌, ◌++◌, map, unwrap_or}
use Rattle.pm_base.specs.declared.events.Event.{Event}
use Rattle.pm_base.specs.declared.events.Event.TheVariants.{Ipi}
use Rattle.pm_core.specs.declared.replies.Answer.{Answer}
use Rattle.pm_core.specs.declared.replies.Answer.TheVariants.{Reply}
use Rattle.pm_modules.specs.Ranges.{Ranged, said_by}
use Rattle.pm_board.specs.Board.{Standing, board_after}
use Rattle.pm_run.specs.Run.{Setup}
use Rattle.pm_drive.specs.Clocks.{clocked}
use Rattle.pm_drive.specs.Drive.{Driven, Given}
use Rattle.pm_drive.specs.Tasks.{task_notes}

-- the answer to a core event as it is told: where the book replies to a message whose API word is a module's, what the
-- module says stands in place of the reply. Any other answer is the book's
abbrev pub completed : List Ranged → Event → Answer → Answer
completed modules (Ipi sender message) (Reply master response) =
    Reply master (unwrap_or (said_by modules message) response)
completed modules event answer = answer

-- a core step, with its answer as it is told
abbrev pub completed_core : List Ranged → Given → Given
completed_core modules g = record g { part = record g.part { answer = completed modules g.core.event g.part.answer } }

abbrev pub completed_cores : List Ranged → List Given → List Given
completed_cores modules given = map (completed_core modules) given

-- a driven line that finds a board so: its answers as they are told, and its own notes, and then those of tasks
abbrev pub completed_line : Standing → Driven → Driven
completed_line board x =
    record x {
      line = record x.line { notes = x.line.notes ++ task_notes x.line.event board.tasks };
      cores = completed_cores board.modules x.cores;
    }

-- driven lines, the first of which finds a board so, and each later one as the line before it leaves it
abbrev pub completed_by : Standing → List Driven → List Driven
completed_by board [] = []
completed_by board (x ∷ xs) = completed_line board x ∷ completed_by (board_after x.line.event board) xs

-- the board after these driven lines
abbrev pub last_board : Standing → List Driven → Standing
last_board board [] = board
last_board board (x ∷ xs) = last_board (board_after x.line.event board) xs

-- driven lines of a run that begins with a board, from its load on: with the clocks of the book, and with what the board brings.
-- The API words of the clocks are none of modules, and the notes of clocks stand before those of tasks
abbrev pub completed_in : Setup → Standing → List Driven → List Driven
completed_in c board xs = completed_by board (clocked c xs)
