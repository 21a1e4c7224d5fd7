-- A device that fails on broken nodes.
use Rattle.std.specs.Prelude.{◌≡◌, ℕ, Bool, true, false, not, ◌||◌, List, [], ◌∷◌, ◌++◌, ⊤}
use Rattle.pm_base.specs.Faults.{raised}
use Rattle.pm_base.specs.declared.names.Command.{Command}
use Rattle.pm_base.specs.declared.names.Unit.{Unit}
use Rattle.pm_base.specs.declared.names.NodeId.{NodeId}
use Rattle.pm_device.specs.declared.cells.Cell.{Cell}
use Rattle.pm_device.specs.Act.{Act, Order, Rig, Fit, Shows}
use Rattle.pm_device.specs.Device.{DeviceMoment}
use Rattle.pm_topology.specs.UnitMap.{all_at}
use Rattle.pm_topology.specs.Units.{units_of}
use Rattle.pm_device.specs.Cells.{broken_of, cell_of, idle, is_broken_cell, is_there, set_broken, set_value}

-- the units, how many commands failed, and the acts since it was new, in their order
pub record Bench : Type 0 where
  pub cells : List (Unit × Cell)
  pub faults : ℕ
  pub log : List Act

-- what it shows
abbrev pub moment_of : Bench → DeviceMoment
moment_of b = record {
  value = λ unit. (cell_of b.cells unit).value;
  has = is_there b.cells;
  broken = broken_of b.cells;
  faults = b.faults;
}

-- a command on this unit fails
abbrev pub does_fail : Bench → Unit → Bool
does_fail b unit = not (is_there b.cells unit) || is_broken_cell b.cells unit

-- after a command that was carried out, and after one that failed
abbrev pub bench_after : Command → Bool → Bench → Bench
bench_after command true b = record b { cells = set_value command.unit command.value b.cells }
bench_after command false b = record b { faults = raised b.faults }

-- after a node was broken or mended
abbrev pub bench_rigged : NodeId → Bool → Bench → Bench
bench_rigged node broken b = record b { cells = set_broken node broken b.cells }

-- the units and the count after an act
abbrev pub bench_done : Act → Bench → Bench
bench_done (Order command ok) b = bench_after command ok b
bench_done (Rig node broken) b = bench_rigged node broken b
bench_done (Fit chip) b = record b { cells = all_at idle (units_of chip) }

-- after an act, which is logged
abbrev pub bench_by : Act → Bench → Bench
bench_by act b = record (bench_done act b) { log = b.log ++ act ∷ [] }

-- an act leads from the one to the other
pub record BenchDoes (act : Act) (old new : Bench) : Type 0 where
  pub shows : Shows ⊤ ⊤ act (moment_of old) (moment_of new)
  pub after : new ≡ bench_by act old
