use Rattle.std.proofs.Common.{◌≡◌, ◌++◌, take}
use Rattle.pm_object.proofs.copying.append_groups.Given as goal

abbrev pub invariant-loop-group : goal.invariant-loop-group
invariant-loop-group l = l.copied ≡ l.initial.copied ++ take l.group-index l.groups
