use Rattle.std.proofs.Common.{◌≡◌}
use Rattle.pm_objtext.proofs.groups.list_of.Given as goal

abbrev pub invariant-loop-group : goal.invariant-loop-group
invariant-loop-group l = l.list ≡ l.yielded
