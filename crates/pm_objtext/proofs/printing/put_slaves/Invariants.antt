use Rattle.std.proofs.Common.{◌≡◌, ◌++◌, map, take}
use Rattle.pm_objtext.specs.declared.item.Item.TheVariants.{Slave}
use Rattle.pm_objtext.specs.Printing.{lines_text}
use Rattle.pm_objtext.proofs.printing.put_slaves.Given as goal

abbrev pub invariant-loop-s : goal.invariant-loop-s
invariant-loop-s l = l.text.items ≡ l.fn.text.items ++ lines_text (map Slave (take l.s-index l.slaves))
