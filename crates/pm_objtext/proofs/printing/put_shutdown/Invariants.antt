use Rattle.std.proofs.Common.{◌≡◌, ◌++◌, map, take}
use Rattle.pm_objtext.specs.declared.item.Item.TheVariants.{Shutdown}
use Rattle.pm_objtext.specs.Printing.{lines_text}
use Rattle.pm_objtext.proofs.printing.put_shutdown.Given as goal

abbrev pub invariant-loop-pair : goal.invariant-loop-pair
invariant-loop-pair l = l.text.items ≡ l.fn.text.items ++ lines_text (map Shutdown (take l.pair-index l.pairs))
