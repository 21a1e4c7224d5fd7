-- The acts that a log is given.
use Rattle.pm_device.specs.declared.log.Entry.{Entry}
use Rattle.pm_device.specs.declared.log.Entry.TheVariants as entries
use Rattle.pm_device.specs.Act.{Act, Order, Rig}

abbrev pub act_of : Entry → Act
act_of (entries.Order command ok) = Order command ok
act_of (entries.Rig node broken) = Rig node broken
