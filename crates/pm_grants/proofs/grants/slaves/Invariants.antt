use Rattle.std.proofs.Common.{◌≡◌, map, take}
use Rattle.pm_grants.specs.Grants.{slave_mask}
use Rattle.pm_grants.proofs.grants.slaves.Given as goal

abbrev pub invariant-loop-slave : goal.invariant-loop-slave
invariant-loop-slave l = l.masks ≡ map (slave_mask l.object) (take l.slave-index l.slaves)
