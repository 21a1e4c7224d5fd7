use Rattle.std.proofs.Common.{◌≡◌, take}
use Rattle.pm_topology.proofs.topology.copy_of_masters.Given as goal

abbrev pub invariant-loop-master : goal.invariant-loop-master
invariant-loop-master l = l.list ≡ take l.master-index l.masters
