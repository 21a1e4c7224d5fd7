-- The run of a script over an object and a chip: its first lines attach what they attach before the load, and nothing
-- happens in them any more.
use Rattle.std.specs.Prelude.{ℕ, Bool, List}
use Rattle.pm_base.specs.declared.events.Event.{Event}
use Rattle.pm_object.specs.declared.object.Object.{Object}
use Rattle.pm_block.specs.Block.{passed}
use Rattle.pm_topology.specs.declared.topology.Topology.{Topology}
use Rattle.pm_board.specs.Board.{Standing}
use Rattle.pm_run.specs.Run.{setup_for}
use Rattle.pm_drive.specs.Drive.{Driven, driven}
use Rattle.pm_drive.specs.Text.{run_text}

-- the driven lines of it, under the device's answers
abbrev pub script_driven : Object → Topology → List (List Bool) → List Event → List Driven
script_driven object t answers events = driven (setup_for object t events) answers (passed events)

-- the whole text of it
abbrev pub script_text : Object → Topology → Standing → List (List Bool) → List Event → List ℕ
script_text object t board answers events = run_text (setup_for object t events) board answers (passed events)
