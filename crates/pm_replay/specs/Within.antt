-- The effects of the parts of a run: their text, the acts on the device, and their ends. No call of this crate's
-- users speaks of these words.
use Rattle.std.specs.Prelude.{◌≡◌, ℕ, ◌+◌, Bool, true, false, List, ◌++◌, length, Option, Some, None, Result, Ok, Err, ⊤}
use Rattle.pm_base.specs.declared.errors.Exit.{Exit}
use Rattle.pm_base.specs.declared.errors.Failed.{Failed}
use Rattle.pm_base.specs.declared.events.Event.{Event}
use Rattle.pm_base.specs.declared.events.Event.TheVariants.{Post, Serve, Smc, Attach, Break, Mend}
use Rattle.pm_io.specs.declared.sink.Sink as Sink
use Rattle.pm_io.specs.Writing.{Leaves}
use Rattle.pm_device.specs.declared.device.Device as Device
use Rattle.pm_device.specs.Act.{Chain}
use Rattle.pm_board.specs.Board.{Standing, board_after}
use Rattle.pm_modules.specs.Ranges.{Ranged}
use Rattle.pm_state.specs.Load.{load_of}
use Rattle.pm_clock_tree.specs.Told.{Clocked}
use Rattle.pm_clock_tree.specs.Tree.{Tree, running}
use Rattle.pm_clocks.specs.Clocked.{tree_after}
use Rattle.pm_core.specs.Outbox.{Holds}
use Rattle.pm_ipi.specs.declared.responses.Response.{Response}
use Rattle.pm_split.specs.Split.{called_note}
use Rattle.pm_run.specs.Run.{Setup, book_after, cores_of, lines_of, loaded, setup_of, split}
use Rattle.pm_state.specs.State.{State}
use Rattle.pm_core.specs.Step.{effect, outputs, outputs_at_load}
use Rattle.pm_apply.specs.Part.{Kept, answers_in, orders_in, part_in, part_of}
use Rattle.pm_record.specs.Record.{at_zero}
use Rattle.pm_reader.specs.declared.follow.LineStop.{LineStop}
use Rattle.pm_reader.specs.declared.follow.LineStop.TheVariants as stops
use Rattle.pm_reader.specs.declared.follow.LinesEnd as reader
use Rattle.pm_script.specs.Script.{Script, Stop, stop_of}
use Rattle.pm_script.specs.Script.Stop.{Bad}
use Rattle.pm_trace.specs.Report.{Report, exit_of, pieces}
use Rattle.pm_trace.specs.Notes.{notes_text}
use Rattle.pm_trace.specs.Step.{notices_in, notices_of, step_text}
use Rattle.pm_trace.specs.Scripts.{at_end, fault_at}
use Rattle.pm_drive.specs.Drive.{Driven, Given, acts, drive, driven, give, kept_after, last_book, last_kept, orders_in_cores, rigs, until}
use Rattle.pm_drive.specs.Clocks.{clock_notes, clocked_by, clocked_cores, clocked_part, last_tree, table_text, tree_along}
use Rattle.pm_drive.specs.Completed.{completed, completed_by, completed_cores, last_board}
use Rattle.pm_drive.specs.Tasks.{task_notes}
use Rattle.pm_drive.specs.Text.{given_text, reply_after, texts}
use Rattle.pm_engine.specs.Progress.{AreOf, Progress, stand_in}
use Rattle.pm_engine.specs.Writes.{WritesOn}
use Rattle.pm_replay.specs.Replay.{run_report}

-- a line of this event has only this core event, no note of its own, no act on the device besides its commands, and
-- no answer to a power call
abbrev pub is_alone : Event → Bool
is_alone (Post master message) = false
is_alone Serve = false
is_alone (Smc proc function args) = false
is_alone (Attach address words) = false
is_alone (Break node) = false
is_alone (Mend node) = false
is_alone event = true

-- the state at load, before the device gets any command
pub record IsLoaded (c : Progress) : Type 0 where
  pub book : c.book ≡ load_of c.book.fixed.object c.book.fixed.attached c.book.fixed.topology
  pub kept : c.kept ≡ at_zero c.book.fixed.topology
  pub boxes : c.boxes ≡ (loaded (setup_of c.book)).boxes
  pub clocks : AreOf c.book c.clocks
  pub out : Holds (outputs_at_load c.book) c.outbox

-- the clocks that are told are those that run: so it is between lines
abbrev pub AreTold : Clocked → Type 0
AreTold clocks = clocks.told ≡ running clocks.tree

-- the driven lines of these events, from this state of a run
abbrev pub driven_from : Setup → Progress → List (List Bool) → List Event → List Driven
driven_from c now answers events = drive now.kept answers (lines_of c events (stand_in now))

-- the report after the last line of a script that came to its end or couldn't be read on
abbrev pub closing_report : Stop → State → Kept → Tree → Report
closing_report stop book kept tree = record { body = at_end stop (table_text book kept tree); fault = fault_at 0 stop }

-- the core steps of a line, from this state of a run
abbrev pub given_from : Setup → Event → Progress → List (List Bool) → List Given
given_from c event now answers = give now.kept answers (cores_of (split c event (stand_in now)).events now.book)

-- the completed lines, from this state of a run and of the board
abbrev pub completed_from : Setup → Standing → Progress → List (List Bool) → List Event → List Driven
completed_from c board now answers events =
    completed_by board (clocked_by now.clocks.tree (driven_from c now answers events))

-- the closing table after these lines
abbrev pub table_from : Progress → List Driven → List ℕ
table_from now xs = table_text (last_book now.book xs) (last_kept now.kept xs) (last_tree now.clocks.tree xs)

-- the report of lines, the first of which has number n and finds this board, and of what follows them
abbrev pub report_from : Setup → Standing → ℕ → Progress → Script → List (List Bool) → Report
report_from c board n now s answers = record {
  body = texts n (completed_from c board now answers s.events) ++ at_end s.stop (table_from now (driven_from c now answers s.events));
  fault = fault_at (n + length s.events) s.stop;
}

-- the end of lines: all were carried out, with the state of the run after them; or one can't be read; or the sink
-- broke off
abbrev pub LinesEnd : ℕ → Script → Progress → List Driven → Option ℕ → Progress → Result reader.LinesEnd LineStop → Type 0
LinesEnd n s now xs cut then (Ok end) =
    (cut ≡ None) × (s.stop ≡ stop_of end.stop) × (then.book ≡ last_book now.book xs) × (then.kept ≡ last_kept now.kept xs)
    × (then.clocks.tree ≡ last_tree now.clocks.tree xs)
LinesEnd n s now xs cut then (Err (stops.Bad m cause)) = (cut ≡ None) × (s.stop ≡ Bad cause) × (m ≡ n + length s.events)
LinesEnd n s now xs cut then (Err stops.Broken) = (k : ℕ) × (cut ≡ Some k)

module _ {O D : Type 0} (o : Sink.Ghosts O) (d : Device.Ghosts D) where
  -- these pieces were written up to a cut, and the device was driven through the steps up to it
  pub record Went (all : List (List ℕ)) (xs : List Driven) (cut : Option ℕ) (old new : O) (from to : D) : Type 0 where
    pub left : Leaves o all cut old new
    pub given : Chain d.Does (acts (until cut xs)) from to

  -- a core event was carried out from a book, a record of kept values and a clock tree; the device was made to follow
  -- it; and its text was written, if the line's text hadn't broken off before
  pub record RanCore (n : ℕ) (event : Event) (book : State) (kept : Kept) (tree : Tree) (then : Progress) (modules : List Ranged)
      (so_far result : Result ⊤ Failed) (old new : O) (from to : D) : Type 0 where
    pub after : then.book ≡ effect event book
    pub part : part_in then.kept then.outbox
        ≡ clocked_part event then.book tree (part_of kept (answers_in then.outbox) then.book (outputs event book))
    pub turned : then.clocks.tree ≡ tree_after event (outputs event book).answer then.book tree
    pub notices : notices_in then.outbox ≡ notices_of (outputs event book)
    pub given : Chain d.Does (orders_in then.outbox) from to
    pub writes : WritesOn o (step_text n then.outbox.done.items (notices_in then.outbox) (completed modules event then.outbox.answer)) so_far result old new

  -- the driven steps of core events one after another, whatever becomes of their text, from the last reply told
  -- before them to the last one told
  pub record RanCores (n : ℕ) (events : List Event) (book : State) (kept : Kept) (tree : Tree) (then : Progress) (modules : List Ranged)
      (reply told : Option Response) (so_far result : Result ⊤ Failed) (old new : O) (from to : D) : Type 0 where
    pub answers : List (List Bool)
    pub fits : length answers ≡ length events
    pub after : then.book ≡ book_after events book
    pub keeps : then.kept ≡ kept_after kept (give kept answers (cores_of events book))
    pub given : Chain d.Does (orders_in_cores (give kept answers (cores_of events book))) from to
    pub turned : then.clocks.tree ≡ tree_along (give kept answers (cores_of events book)) tree
    pub replied : told ≡ reply_after reply (completed_cores modules (clocked_cores tree (give kept answers (cores_of events book))))
    pub writes : WritesOn o (given_text n (completed_cores modules (clocked_cores tree (give kept answers (cores_of events book))))) so_far result old new

  -- a line was carried out to its end: a node was broken or mended if the line says so, and then came its core
  -- events. Its text was written as far as the sink took it, with the notes of clocks and tasks and the answer to its
  -- power call, by the last reply told. The clocks and the board are as the line leaves them
  pub record RanLine (c : Setup) (n : ℕ) (event : Event) (now then : Progress) (old new : O) (from to : D)
      (board is : Standing) (result : Result ⊤ Failed) : Type 0 where
    pub between : D
    pub rigged : Chain d.Does (rigs event) from between
    pub far : Result ⊤ Failed
    pub via : O
    pub told : Option Response
    pub cores : RanCores n (split c event (stand_in now)).events now.book now.kept now.clocks.tree then board.modules None told (Ok tt)
        far old via between to
    pub clocks_told : AreTold then.clocks
    pub boxes : then.boxes ≡ (split c event (stand_in now)).boxes
    pub notes : WritesOn o
        (notes_text n ((((split c event (stand_in now)).notes
        ++ clock_notes now.clocks.tree (given_from c event now cores.answers)) ++ task_notes event board.tasks)
        ++ called_note then.book.fixed.topology event told))
        far result via new
    pub tasks_left : is ≡ board_after event board

  -- the device was made to follow the book at load
  pub record Started (now then : Progress) (from to : D) : Type 0 where
    pub book : then.book ≡ now.book
    pub boxes : then.boxes ≡ now.boxes
    pub clocks : then.clocks ≡ now.clocks
    pub part : part_in then.kept then.outbox ≡ part_of now.kept (answers_in then.outbox) now.book (outputs_at_load now.book)
    pub notices : notices_in then.outbox ≡ notices_of (outputs_at_load now.book)
    pub given : Chain d.Does (orders_in then.outbox) from to

  -- the lines of a script were run up to the first one that can't be read; the first of them has number n
  pub record RanLines (c : Setup) (n : ℕ) (s : Script) (now then : Progress) (old new : O) (from to : D)
      (board is : Standing) (result : Result reader.LinesEnd LineStop) : Type 0 where
    pub answers : List (List Bool)
    pub cut : Option ℕ
    pub went : Went (texts n (completed_from c board now answers s.events)) (driven_from c now answers s.events) cut old new from to
    pub ends : LinesEnd n s now (driven_from c now answers s.events) cut then result
    pub tasks_left : is ≡ last_board board (until cut (driven_from c now answers s.events))

  -- lines were run, and what follows them was written
  pub record RanRest (c : Setup) (n : ℕ) (s : Script) (now : Progress) (old new : O) (from to : D)
      (board is : Standing) (exit : Exit) : Type 0 where
    pub answers : List (List Bool)
    pub cut : Option ℕ
    pub went : Went (pieces (report_from c board n now s answers)) (driven_from c now answers s.events) cut old new from to
    pub ends : exit ≡ exit_of (report_from c board n now s answers) cut
    pub tasks_left : is ≡ last_board board (until cut (driven_from c now answers s.events))

  -- an opened script was run from the load
  pub record RanScript (c : Setup) (s : Script) (old new : O) (from to : D) (board is : Standing) (exit : Exit) : Type 0 where
    pub answers : List (List Bool)
    pub cut : Option ℕ
    pub went : Went (pieces (run_report c board s answers)) (driven c answers s.events) cut old new from to
    pub ends : exit ≡ exit_of (run_report c board s answers) cut
    pub tasks_left : is ≡ last_board board (until cut (driven c answers s.events))
