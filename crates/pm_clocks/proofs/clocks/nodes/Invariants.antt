use Rattle.std.proofs.Common.{◌≡◌, map, take}
use Rattle.pm_clocks.specs.Clocked.{node_of}
use Rattle.pm_clocks.proofs.clocks.nodes.Given as goal

abbrev pub invariant-loop-master : goal.invariant-loop-master
invariant-loop-master l = l.nodes ≡ map node_of (take l.master-index l.masters)
