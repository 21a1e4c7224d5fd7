-- Nothing is used without power, and no domain goes down under its users.
use Rattle.std.specs.Prelude.{List}
use Rattle.pm_topology.specs.declared.topology.Topology.{Topology}
use Rattle.pm_device.specs.Act.{Act, Chain}
use Rattle.pm_device.specs.declared.device.Device as Device
use Rattle.pm_apply.specs.Order.{IsOrdered}

module _ {D : Type 0} (d : Device.Ghosts D) where
  -- exactly these acts were done to the device, in this order, from values that are all 0. At each command no node is
  -- set to a value that needs power while its domain is down, and no domain is taken down under its users
  pub record IsSafe (t : Topology) (old new : D) : Type 0 where
    pub acts : List Act
    pub given : Chain d.Does acts old new
    pub ordered : IsOrdered t (λ unit. 0) acts
