use Rattle.std.proofs.Common.{◌≡◌, ◌++◌, take}
use Rattle.std.specs.List.{AllByRecursion, flat_map}
use Rattle.pm_topofile.specs.Printing.{IsSmallSlave, slave_text}
use Rattle.pm_topofile.proofs.printing.put_slaves.Given as goal

abbrev pub invariant-loop-slave : goal.invariant-loop-slave
invariant-loop-slave l = record {
  text : l.text.items ≡ l.fn.text.items ++ flat_map (slave_text l.powers) (take l.slave-index l.slaves);
  small : AllByRecursion (IsSmallSlave l.powers) (take l.slave-index l.slaves);
}
