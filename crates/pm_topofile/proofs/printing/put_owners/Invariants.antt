use Rattle.std.proofs.Common.{◌≡◌, ◌++◌, take}
use Rattle.std.specs.List.{AllByRecursion, flat_map}
use Rattle.pm_topofile.specs.Printing.{AreSmall, owner_text, owner_words}
use Rattle.pm_topofile.proofs.printing.put_owners.Given as goal

abbrev pub invariant-loop-master : goal.invariant-loop-master
invariant-loop-master l = record {
  text : l.text.items ≡ l.fn.text.items ++ flat_map owner_text (take l.master-index l.masters);
  small : AllByRecursion (λ m. AreSmall (owner_words m.node m.procs)) (take l.master-index l.masters);
}
