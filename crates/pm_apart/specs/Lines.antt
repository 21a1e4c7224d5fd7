-- The lines of a run's text, each a list of words, and the lines about a unit: those of the commands on it, and its
-- closing line.
use Rattle.std.specs.Prelude.{ℕ, ◌+◌, ◌==◌, Bool, false, ◌&&◌, ◌||◌, codes, if◌then◌else◌, List, [], ◌∷◌, ◌++◌, filter, flat_map, map}
use Rattle.std.specs.Str.{bytes_eq}
use Rattle.pm_base.specs.declared.events.Event.{Event}
use Rattle.pm_base.specs.declared.names.Unit.{Unit}
use Rattle.pm_base.specs.declared.names.Unit.TheVariants.{Node, Line}
use Rattle.pm_topology.specs.declared.topology.Topology.{Topology}
use Rattle.pm_topology.specs.Units.{same_unit}
use Rattle.pm_base.specs.Names.{unit_number}
use Rattle.pm_core.specs.declared.outbox.Done.{Done}
use Rattle.pm_state.specs.Load.{load_of}
use Rattle.pm_clock_tree.specs.declared.clock_tree.ClockEnd.{ClockEnd}
use Rattle.pm_clock_tree.specs.Told.{ends}
use Rattle.pm_clock_tree.specs.Tree.{Tree}
use Rattle.pm_state.specs.State.{State}
use Rattle.pm_state.specs.Units.{units}
use Rattle.pm_split.specs.Split.{Note}
use Rattle.pm_board.specs.Board.{Standing}
use Rattle.pm_run.specs.Run.{Setup}
use Rattle.pm_apply.specs.Part.{Kept}
use Rattle.pm_record.specs.Record.{at_zero, kept_value}
use Rattle.pm_trace.specs.declared.line.Word.{Word}
use Rattle.pm_trace.specs.declared.line.Word.TheVariants as word
use Rattle.pm_trace.specs.declared.step.StepLine.TheVariants as told
use Rattle.pm_trace.specs.Closing.{unit_name}
use Rattle.pm_state.specs.Values.{shown}
use Rattle.pm_trace.specs.Line.{numbers}
use Rattle.pm_trace.specs.Notes.{note_words}
use Rattle.pm_trace.specs.Step.{notices_of, output_words, step_words}
use Rattle.pm_drive.specs.Drive.{Driven, Given, driven, last_book, last_kept}
use Rattle.pm_drive.specs.Clocks.{first_tree, last_tree}
use Rattle.pm_drive.specs.Completed.{completed_in}
use Rattle.pm_drive.specs.Text.{notes_of}

-- ---- the lines of a run

-- a line of output in the script line with this number
abbrev pub numbered : ℕ → List Word → List Word
numbered n words = word.Number n ∷ words

-- the lines of a core step in the script line with this number: its commands, and its other outputs
abbrev pub given_lines : ℕ → Given → List (List Word)
given_lines n g = map (numbered n) (output_words g.part.commands (notices_of g.core.outputs) g.part.answer)

-- the lines of a script line's own notes
abbrev pub note_lines : ℕ → List Note → List (List Word)
note_lines n notes = map (λ note. numbered n (note_words note)) notes

-- the lines of a driven script line: of its core steps in order, and then of its notes
abbrev pub driven_lines : ℕ → Driven → List (List Word)
driven_lines n x = flat_map (given_lines n) x.cores ++ note_lines n (notes_of x)

-- the lines of driven script lines, the first of which has this number
abbrev pub step_lines : ℕ → List Driven → List (List Word)
step_lines n [] = []
step_lines n (x ∷ xs) = driven_lines n x ++ step_lines (n + 1) xs

-- the closing line of a unit; none if its value in the book and its kept value are 0
abbrev pub end_line : Topology → Unit → ℕ → ℕ → List (List Word)
end_line t unit book kept =
    if (book == 0) && (kept == 0) then []
    else (word.Name (codes "end") ∷ (unit_name t unit ++ numbers (book ∷ kept ∷ []))) ∷ []

-- the closing line of a unit, by a book and the kept values
abbrev pub closing_line : State → Kept → Unit → List (List Word)
closing_line book kept unit = end_line book.fixed.topology unit (shown unit book) (kept_value kept unit)

-- the closing line of a unit after some steps of a run
abbrev pub closing_line_of : Setup → List Driven → Unit → List (List Word)
closing_line_of c xs unit = closing_line (last_book (load_of c.object c.attached c.topology) xs) (last_kept (at_zero c.topology) xs) unit

-- the closing line of a clock that runs
abbrev pub end_words : ClockEnd → List Word
end_words end = word.Name (codes "end") ∷ word.Name (codes "clock") ∷ numbers (end.clock ∷ end.divider ∷ end.index ∷ [])

-- the closing lines of all clocks that run
abbrev pub clock_lines : Tree → List (List Word)
clock_lines tree = map end_words (ends tree)

-- the closing table after some lines of a run: the lines of the units, and then those of the clocks
abbrev pub table_lines : Setup → List Driven → List (List Word)
table_lines c xs =
    flat_map (closing_line_of c xs) (units (last_book (load_of c.object c.attached c.topology) xs))
    ++ clock_lines (last_tree (first_tree c) xs)

-- all lines of a run that begins with this board, over a device with these answers
abbrev pub run_lines : Setup → Standing → List (List Bool) → List Event → List (List Word)
run_lines c board answers events = step_lines 0 (completed_in c board (driven c answers events)) ++ table_lines c (driven c answers events)

-- ---- the lines about a unit

-- the word is this name, or this number
abbrev pub is_name : List ℕ → Word → Bool
is_name text (word.Name name) = bytes_eq name text
is_name text _ = false

abbrev pub is_number : ℕ → Word → Bool
is_number k (word.Number n) = n == k
is_number k _ = false

-- the word begins the line of a command, carried out or refused, on a unit of this sort
abbrev pub is_command : Unit → Word → Bool
is_command (Node node) word = is_name (codes "set") word || is_name (codes "fail") word
is_command (Line line) word = is_name (codes "line") word || is_name (codes "linefail") word

-- the word names a unit of this sort in the closing table
abbrev pub is_named : Unit → Word → Bool
is_named (Node node) word = is_name (codes "proc") word || (is_name (codes "slave") word || is_name (codes "power") word)
is_named (Line line) word = is_name (codes "line") word

-- three words with which a line about the unit begins: of a command on it, behind the number of the script line, or
-- of its closing line
abbrev pub begins_about : Unit → Word → Word → Word → Bool
begins_about unit (word.Number n) name number = is_command unit name && is_number (unit_number unit) number
begins_about unit (word.Name first) name number =
    bytes_eq first (codes "end") && (is_named unit name && is_number (unit_number unit) number)
begins_about unit _ name number = false

-- the line of these words is about the unit
abbrev pub is_about : Unit → List Word → Bool
is_about unit [] = false
is_about unit (first ∷ []) = false
is_about unit (first ∷ name ∷ []) = false
is_about unit (first ∷ name ∷ number ∷ others) = begins_about unit first name number

-- ---- the commands on a unit

-- the command is on this unit
abbrev pub is_on : Unit → Done → Bool
is_on unit d = same_unit d.command.unit unit

-- the commands of a driven line on a unit, in order
abbrev pub commands_of : List Given → List Done
commands_of given = flat_map (λ (g : Given). g.part.commands) given

abbrev pub commands_on : Unit → Driven → List Done
commands_on unit x = filter (is_on unit) (commands_of x.cores)

-- the lines of the commands on a unit, in driven script lines of which the first has this number
abbrev pub set_lines : Unit → ℕ → List Driven → List (List Word)
set_lines unit n [] = []
set_lines unit n (x ∷ xs) = map (λ d. numbered n (step_words (told.Command d))) (commands_on unit x) ++ set_lines unit (n + 1) xs
