use Rattle.std.proofs.Common.{◌≡◌, ◌++◌, take}
use Rattle.pm_object.proofs.copying.append.Given as goal

abbrev pub invariant-loop-item : goal.invariant-loop-item
invariant-loop-item g l = l.copied ≡ l.initial.copied ++ take l.item-index l.items
