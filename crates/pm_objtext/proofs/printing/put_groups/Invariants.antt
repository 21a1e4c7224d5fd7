use Rattle.std.proofs.Common.{◌≡◌, ◌++◌, take}
use Rattle.std.specs.List.{flat_map}
use Rattle.pm_objtext.specs.Printing.{lines_text}
use Rattle.pm_objtext.specs.Items.{group_items}
use Rattle.pm_objtext.proofs.printing.put_groups.Given as goal

abbrev pub invariant-loop-group : goal.invariant-loop-group
invariant-loop-group l = l.text.items ≡ l.fn.text.items ++ lines_text (flat_map group_items (take l.group-index l.groups))
