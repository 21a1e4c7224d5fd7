-- A script in which each power call is lowered: in its place stands a line for each of the events that it comes to.
use Rattle.std.specs.Prelude.{◌≡◌, Bool, true, false, not, List, [], ◌∷◌, ◌++◌, filter, flat_map, map}
use Rattle.pm_base.specs.declared.events.Event.{Event}
use Rattle.pm_base.specs.declared.events.Event.TheVariants.{Smc}
use Rattle.pm_topology.specs.declared.topology.Topology.{Topology}
use Rattle.pm_psci.specs.Lowering.{lowered}
use Rattle.pm_split.specs.Split.{Note, call}
use Rattle.pm_split.specs.Split.Note.{Clock}
use Rattle.pm_run.specs.Run.{Setup}
use Rattle.pm_trace.specs.declared.line.Word.{Word}
use Rattle.pm_trace.specs.Notes.{note_words}
use Rattle.pm_trace.specs.Step.{notices_of, output_words}
use Rattle.pm_board.specs.Board.{Standing}
use Rattle.pm_drive.specs.Drive.{Driven, Given, acts}
use Rattle.pm_drive.specs.Clocks.{first_tree, last_tree}
use Rattle.pm_drive.specs.Completed.{completed_by, completed_in, last_board}
use Rattle.pm_drive.specs.Text.{closing_after}

-- the lines in place of one
abbrev pub lowered_line : Topology → Event → List Event
lowered_line t (Smc proc function args) = lowered t (call proc function args)
lowered_line t event = event ∷ []

abbrev pub lowered_script : Topology → List Event → List Event
lowered_script t events = flat_map (lowered_line t) events

-- the core steps of driven lines, each with what the device was given in it, one after another
abbrev pub given_in : List Driven → List Given
given_in xs = flat_map (λ (x : Driven). x.cores) xs

-- the words of the lines that a core step tells, each without its number
abbrev pub told_by : Given → List (List Word)
told_by g = output_words g.part.commands (notices_of g.core.outputs) g.part.answer

-- those of driven lines, but for the answers to power calls
abbrev pub told_in : List Driven → List (List Word)
told_in xs = flat_map (λ (x : Driven). flat_map told_by x.cores ++ map note_words x.line.notes) xs

-- a note of a clock
abbrev pub is_of_clock : Note → Bool
is_of_clock (Clock number from to) = true
is_of_clock note = false

abbrev pub but_clocks : List Note → List Note
but_clocks notes = filter (λ note. not (is_of_clock note)) notes

-- what is told of these lines, but for the notes of clocks
abbrev pub told_but_clocks : List Driven → List (List Word)
told_but_clocks xs = flat_map (λ (x : Driven). flat_map told_by x.cores ++ map note_words (but_clocks x.line.notes)) xs

-- in two driven runs the same core steps follow one another, with the same books before and after each, the same outputs,
-- commands and answers. The same lines are told, but for their numbers and the answers to power calls: those of the books and
-- the device, and, whatever board both begin with, those that are written where it brings its modules and tasks, which both
-- leave alike. So it is with the clocks, but that a line with several core steps tells once which clocks began or ceased to run in
-- it, and each line of one core step tells its own. The same is done to the device, the clocks are left alike, and the closing
-- tables are the same
pub record HaveSameSteps (c : Setup) (xs ys : List Driven) : Type 0 where
  pub steps : given_in xs ≡ given_in ys
  pub told : told_in xs ≡ told_in ys
  pub completed : (board : Standing) → told_in (completed_by board xs) ≡ told_in (completed_by board ys)
  pub clocked : (board : Standing)
      → told_but_clocks (completed_in c board xs) ≡ told_but_clocks (completed_in c board ys)
  pub board : (board : Standing) → last_board board xs ≡ last_board board ys
  pub tree : last_tree (first_tree c) xs ≡ last_tree (first_tree c) ys
  pub done : acts xs ≡ acts ys
  pub closing : closing_after c xs ≡ closing_after c ys
