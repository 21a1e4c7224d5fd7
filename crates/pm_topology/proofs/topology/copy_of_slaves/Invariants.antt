use Rattle.std.proofs.Common.{◌≡◌, take}
use Rattle.pm_topology.proofs.topology.copy_of_slaves.Given as goal

abbrev pub invariant-loop-slave : goal.invariant-loop-slave
invariant-loop-slave l = l.list ≡ take l.slave-index l.slaves
