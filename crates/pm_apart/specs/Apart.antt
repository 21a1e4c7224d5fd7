-- Driven runs with the same commands on a unit, and runs whose output beyond the reach of each master is that of the
-- run without its messages.
use Rattle.std.specs.Prelude.{◌≡◌, ℕ, Bool, true, List, [], filter, map, Option}
use Rattle.std.specs.List.{concat}
use Rattle.pm_base.specs.declared.events.Event.{Event}
use Rattle.pm_base.specs.declared.names.NodeId.{NodeId}
use Rattle.pm_base.specs.declared.names.Unit.{Unit}
use Rattle.pm_device.specs.declared.device.Device as Device
use Rattle.pm_board.specs.Board.{Standing}
use Rattle.pm_run.specs.Run.{Setup, fixed_of}
use Rattle.pm_laws.specs.Both.{Both}
use Rattle.pm_laws.specs.Quiet.{quiet}
use Rattle.pm_laws.specs.ReachBorder.{border_of}
use Rattle.pm_laws.specs.Values.{is_beyond}
use Rattle.pm_laws.specs.Worlds.{AreWorldsAlike, AreWorldsBeside}
use Rattle.pm_trace.specs.Line.{line_text}
use Rattle.pm_drive.specs.Drive.{Driven, driven, until}
use Rattle.pm_drive.specs.Drove.{NoFailure}
use Rattle.pm_drive.specs.Completed.{completed_in}
use Rattle.pm_drive.specs.Text.{run_text, texts}
use Rattle.pm_apart.specs.Lines.{commands_on, is_about, run_lines, step_lines}
use Rattle.pm_apart.specs.Telling.{TellsApart}

-- two lines have the same commands on a unit, with the same values before them and the same answers, in order
abbrev pub IsDrivenAlike : Unit → Driven → Driven → Type 0
IsDrivenAlike unit x y = commands_on unit x ≡ commands_on unit y

-- two runs are equally long, and driven alike line by line
abbrev pub AreDrivenAlike : Unit → List Driven → List Driven → Type 0
AreDrivenAlike unit xs ys = Both (IsDrivenAlike unit) xs ys

-- the unit is beyond the reach of the master
abbrev pub IsOutOfReach : Setup → NodeId → Unit → Type 0
IsOutOfReach c m unit = is_beyond c.object c.topology (border_of (fixed_of c) m) unit ≡ true

-- for each master and each unit beyond its reach, the lines about the unit, of its commands and its closing line, are
-- those of the run without the messages of the master over a device that never fails. The numbers of the lines are
-- equal, since each message is replaced by a line without one. The boards of the two runs make no difference: no line
-- of a module's response or of a task is about a unit
abbrev pub StaysApart : Setup → List (List Bool) → List Event → Type 0
StaysApart c answers events =
    (board other : Standing) (m : NodeId) (unit : Unit) → IsOutOfReach c m unit
    → filter (is_about unit) (run_lines c board answers events) ≡ filter (is_about unit) (run_lines c other [] (quiet m events))

-- so it is for the script lines alone, up to the one within whose text the run breaks off, if it does: then no
-- closing table is written
abbrev pub StepsStayApart : Setup → List (List Bool) → List Event → Option ℕ → Type 0
StepsStayApart c answers events cut =
    (board other : Standing) (m : NodeId) (unit : Unit) → IsOutOfReach c m unit
    → filter (is_about unit) (step_lines 0 (completed_in c board (until cut (driven c answers events))))
    ≡ filter (is_about unit) (step_lines 0 (completed_in c other (until cut (driven c [] (quiet m events)))))

-- beyond the reach of a master, the run of these events and the run without its messages are alike, whatever the
-- device does. Their core steps are beside one another, line by line: a step in both tells the same there; a step in
-- one alone, which is a message of the master, the wait of one of its processors, or a Pass, tells nothing there. So
-- each pair of lines has equal values and modes there, the same moves, starts and pulses, the same requests to
-- masters, with the same ends and late replies, and the same callbacks, except those about nodes within. The same
-- messages of other masters are dropped; those that name nothing within are answered alike, before an internal error
-- replaces a success. The boxes of all other masters hold the same, and the same of them are told that theirs are
-- full
pub record BooksStayApart (c : Setup) (events : List Event) (m : NodeId) : Type 0 where
  pub beside : AreWorldsBeside c m events
  pub alike : AreWorldsAlike c m events

module _ {D : Type 0} (d : Device.Ghosts D) where
  -- the text of a run is that of its lines. Without a failure of the device, the messages of a master change no line
  -- about a unit beyond its reach. Whatever the device refuses, the books there are alike, and so are the lines of
  -- starts, drops and callbacks, of clocks, of full boxes of other masters, and of timed tasks
  pub record KeepsApart (c : Setup) (answers : List (List Bool)) (events : List Event) (old new : D) : Type 0 where
    pub lines : (board : Standing) → run_text c board answers events ≡ concat (map line_text (run_lines c board answers events))
    pub apart : NoFailure d c.topology (driven c answers events) old new → StaysApart c answers events
    pub beyond : (m : NodeId) → BooksStayApart c events m
    pub telling : (m : NodeId) → TellsApart c events m

  -- the same for the script lines alone, up to the one within whose text the run breaks off, if it does
  pub record StepsKeepApart (c : Setup) (answers : List (List Bool)) (events : List Event) (cut : Option ℕ) (old new : D) : Type 0 where
    pub lines : (board : Standing) → concat (texts 0 (completed_in c board (until cut (driven c answers events))))
        ≡ concat (map line_text (step_lines 0 (completed_in c board (until cut (driven c answers events)))))
    pub apart : NoFailure d c.topology (until cut (driven c answers events)) old new → StepsStayApart c answers events cut
    pub beyond : (m : NodeId) → BooksStayApart c events m
    pub telling : (m : NodeId) → TellsApart c events m
