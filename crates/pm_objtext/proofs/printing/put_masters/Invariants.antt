use Rattle.std.proofs.Common.{◌≡◌, ◌++◌, map, take}
use Rattle.pm_objtext.specs.declared.item.Item.TheVariants.{Master}
use Rattle.pm_objtext.specs.Printing.{lines_text}
use Rattle.pm_objtext.proofs.printing.put_masters.Given as goal

abbrev pub invariant-loop-m : goal.invariant-loop-m
invariant-loop-m l = l.text.items ≡ l.fn.text.items ++ lines_text (map Master (take l.m-index l.masters))
