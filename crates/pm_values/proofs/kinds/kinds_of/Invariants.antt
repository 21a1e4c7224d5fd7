use Rattle.std.proofs.Common.{◌≡◌, map, take}
use Rattle.pm_values.specs.Caches.{kind_of_unit}
use Rattle.pm_values.proofs.kinds.kinds_of.Given as goal

abbrev pub invariant-loop-unit : goal.invariant-loop-unit
invariant-loop-unit l = l.kinds.items ≡ map (kind_of_unit l.t) (take l.unit-index l.units)
