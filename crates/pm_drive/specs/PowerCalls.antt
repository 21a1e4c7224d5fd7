-- The line of a power call is the run of the events that the call is lowered to.
use Rattle.std.specs.Prelude.{◌≡◌, ℕ, ◌≤◌, Bool, List, [], ◌++◌, None}
use Rattle.std.specs.List.{AllByRecursion as Each}
use Rattle.pm_base.specs.declared.names.NodeId.{NodeId}
use Rattle.pm_base.specs.declared.events.Event.{Event}
use Rattle.pm_base.specs.declared.events.Event.TheVariants.{Smc}
use Rattle.pm_psci.specs.Answers.{answered}
use Rattle.pm_psci.specs.Lowering.{lowered}
use Rattle.pm_modules.specs.Ranges.{Ranged}
use Rattle.pm_board.specs.Board.{Standing}
use Rattle.pm_clock_tree.specs.Tree.{Tree}
use Rattle.pm_split.specs.Split.{Note, call, noted_answer}
use Rattle.pm_run.specs.Run.{Setup, Stand, Line, book_after, cores_of, line_of}
use Rattle.pm_apply.specs.Part.{Kept}
use Rattle.pm_trace.specs.Notes.{notes_text}
use Rattle.pm_drive.specs.Drive.{Given, acts_of, drive_line, give, orders_in_cores}
use Rattle.pm_drive.specs.Clocks.{clock_notes, clocked_cores, clocked_line}
use Rattle.pm_drive.specs.Completed.{completed_cores, completed_line}
use Rattle.pm_drive.specs.Text.{driven_text, given_text, reply_after}

-- a call of a processor by its words, in a setup, from what a line finds, over a device that answers so
module _ (c : Setup) (proc : NodeId) (function : ℕ) (args : List ℕ) (stand : Stand) (kept : Kept) (answers : List (List Bool)) where
  abbrev pub line_of_call : Line
  line_of_call = line_of c (Smc proc function args) stand

  -- the events that the call comes to, by the chip and the call alone
  abbrev pub events_of_call : List Event
  events_of_call = lowered c.topology (call proc function args)

  -- the core steps of these events one after another, with their commands
  abbrev pub given_of_call : List Given
  given_of_call = give kept answers (cores_of events_of_call stand.book)

  -- what is written of these core steps in line n, and then these notes and the answer to the call, if it has one, by the last reply
  -- among them
  abbrev pub text_of_call : ℕ → List Note → List Given → List ℕ
  text_of_call n notes given = given_text n given ++ notes_text n (notes ++ noted_answer proc (answered
      (book_after events_of_call stand.book).fixed.topology (call proc function args) (reply_after None given)))

  -- the core steps of the line are those of the events, and so are the book after it, its commands and their lines; the boxes
  -- stay. Last comes the answer to the call, if it has one, by the last reply that was told. So it is whatever board the line
  -- finds: no task is called. And modules, whose API words are those from 256 on, say nothing to these events. No event is a call on
  -- a clock, so clocks say nothing to them either; but the line tells which clocks began or ceased to run
  pub record IsRunOfItsEvents : Type 0 where
    pub cores : line_of_call.cores ≡ cores_of events_of_call stand.book
    pub book : line_of_call.after.book ≡ book_after events_of_call stand.book
    pub boxes : line_of_call.after.boxes ≡ stand.boxes
    pub commands : acts_of (drive_line kept answers line_of_call) ≡ orders_in_cores given_of_call
    pub text : (n : ℕ) → driven_text n (drive_line kept answers line_of_call) ≡ text_of_call n [] given_of_call
    pub completed : (board : Standing) (tree : Tree) (n : ℕ)
        → driven_text n (completed_line board (clocked_line tree (drive_line kept answers line_of_call)))
        ≡ text_of_call n (clock_notes tree given_of_call)
        (completed_cores board.modules (clocked_cores tree given_of_call))
    pub unasked : (tree : Tree) → clocked_cores tree given_of_call ≡ given_of_call
    pub unsaid : (modules : List Ranged) → Each (λ (it : Ranged). 256 ≤ it.first) modules
        → completed_cores modules given_of_call ≡ given_of_call

-- so is the line of each power call
abbrev pub EachCallIsItsEvents : Setup → Type 0
EachCallIsItsEvents c = (proc : NodeId) (function : ℕ) (args : List ℕ) (stand : Stand) (kept : Kept) (answers : List (List Bool))
    → IsRunOfItsEvents c proc function args stand kept answers
