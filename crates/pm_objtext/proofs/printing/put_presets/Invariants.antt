use Rattle.std.proofs.Common.{◌≡◌, ◌++◌, map, take}
use Rattle.pm_objtext.specs.declared.item.Item.TheVariants.{Prefer}
use Rattle.pm_objtext.specs.Printing.{lines_text}
use Rattle.pm_objtext.proofs.printing.put_presets.Given as goal

abbrev pub invariant-loop-rec : goal.invariant-loop-rec
invariant-loop-rec l = l.text.items ≡ l.fn.text.items ++ lines_text (map Prefer (take l.rec-index l.recs))
