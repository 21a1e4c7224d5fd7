use Rattle.std.proofs.Common.{◌≡◌, ◌++◌, length, map}
use Rattle.pm_topofile.specs.Printing.{AreSmall, number_of}
use Rattle.pm_topofile.proofs.Owners.{lines_left}
use Rattle.pm_topofile.proofs.printing.put_owner.Given as goal

abbrev pub invariant-lines : goal.invariant-lines
invariant-lines l = record {
  text : l.text.items ++ lines_left l.master.node l.left ≡ l.fn.text.items ++ lines_left l.master.node l.master.procs;
  small : AreSmall (map number_of l.left) → AreSmall (map number_of l.master.procs);
}

abbrev pub decreases-lines : goal.decreases-lines
decreases-lines l = length l.left
