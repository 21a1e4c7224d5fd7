use Rattle.std.proofs.Common.{◌≡◌, map, take}
use Rattle.pm_clock_tree.specs.Tree.{idle_holder}
use Rattle.pm_clock_tree.proofs.tree.holders_of.Given as goal

abbrev pub invariant-loop-master : goal.invariant-loop-master
invariant-loop-master l = l.holders.items ≡ map idle_holder (take l.master-index l.masters)
