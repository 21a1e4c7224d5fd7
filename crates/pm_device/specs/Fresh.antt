-- A device as it is at first, and one that refuses nothing.
use Rattle.std.specs.Prelude.{◌≡◌, true, []}
use Rattle.pm_base.specs.declared.names.Unit.{Unit}
use Rattle.pm_topology.specs.declared.topology.Topology.{Topology}
use Rattle.pm_device.specs.Device.{DeviceMoment}
use Rattle.pm_topology.specs.Units.{has_unit}

-- a new device of a chip: it has exactly the chip's units, all stands at 0, nothing is broken, and nothing failed yet
pub record IsFresh (t : Topology) (now : DeviceMoment) : Type 0 where
  pub values : (unit : Unit) → now.value unit ≡ 0
  pub units : (unit : Unit) → now.has unit ≡ has_unit t unit
  pub broken : now.broken ≡ []
  pub faults : now.faults ≡ 0

-- the device has each unit of the chip, and none of its nodes is broken
pub record IsWhole (t : Topology) (now : DeviceMoment) : Type 0 where
  pub units : (unit : Unit) → has_unit t unit ≡ true → now.has unit ≡ true
  pub broken : now.broken ≡ []
