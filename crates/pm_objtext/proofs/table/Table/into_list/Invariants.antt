use Rattle.std.proofs.Common.{◌≡◌, ◌++◌}
use Rattle.pm_objtext.proofs.table.Table.into_list.Given as goal

abbrev pub invariant-loop-item : goal.invariant-loop-item
invariant-loop-item g l = l.list ++ l.item-iterator ≡ l.fn.self
