use Rattle.std.proofs.Common.{◌≡◌, take}
use Rattle.std.specs.List.{flat_map}
use Rattle.pm_chip.specs.Chip.{slaves_in}
use Rattle.pm_chip.proofs.chip.slaves_of.Given as goal

abbrev pub invariant-loop-group : goal.invariant-loop-group
invariant-loop-group l = l.slaves ≡ flat_map slaves_in (take l.group-index l.groups)
