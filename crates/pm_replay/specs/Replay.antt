-- The run of a script over a book and a device: its text, the point at which it breaks off, and the acts on the
-- device.
use Rattle.std.specs.Prelude.{◌≡◌, ◌+◌, ℕ, Bool, List, ◌++◌, length, Option, Result, Ok, Err}
use Rattle.pm_device.specs.declared.device.Device as Device
use Rattle.pm_board.specs.Board.{Standing}
use Rattle.pm_object.specs.declared.object.Object.{Object}
use Rattle.pm_topology.specs.declared.topology.Topology.{Topology}
use Rattle.pm_reader.specs.Front.{ran}
use Rattle.pm_run.specs.Run.{Setup, setup_for}
use Rattle.pm_script.specs.Script.{Script}
use Rattle.pm_trace.specs.declared.faults.Fault.{Fault}
use Rattle.pm_trace.specs.Report.{Report}
use Rattle.pm_trace.specs.Scripts.{at_end, fault_at}
use Rattle.pm_drive.specs.Drive.{driven, until}
use Rattle.pm_drive.specs.Drove.{Drove}
use Rattle.pm_drive.specs.Completed.{completed_in, last_board}
use Rattle.pm_drive.specs.Scripts.{script_driven}
use Rattle.pm_drive.specs.Text.{closing_after, texts}

-- the report of the run of these lines that begins with a board, under the device's answers; the closing table comes
-- if they came to their end
abbrev pub run_report : Setup → Standing → Script → List (List Bool) → Report
run_report c board s answers = record {
  body = texts 0 (completed_in c board (driven c answers s.events)) ++ at_end s.stop (closing_after c (driven c answers s.events));
  fault = fault_at (1 + length s.events) s.stop;
}

-- the run of a script over an object and a chip: the lines of its block attach objects before the load, and have no
-- other effect
abbrev pub replay_report : Object → Topology → Standing → Script → List (List Bool) → Report
replay_report object t board s answers = run_report (setup_for object t s.events) board (ran s) answers

module _ {D : Type 0} (d : Device.Ghosts D) where
  -- the device was driven through the lines of a script up to the one at the cut, which is carried out to its end,
  -- and the board is as these lines leave it; or nothing was done to either
  abbrev pub Touched : Object → Topology → Standing → Standing → D → D → Result Script Fault → List (List Bool) → Option ℕ → Type 0
  Touched object t board is old new (Ok s) answers cut =
      Drove d (setup_for object t s.events) (until cut (script_driven object t answers s.events)) old new
      × (is ≡ last_board board (until cut (script_driven object t answers s.events)))
  Touched object t board is old new (Err fault) answers cut = (old ≡ new) × (board ≡ is)
