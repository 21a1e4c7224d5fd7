use Rattle.std.proofs.Common.{◌≡◌}
use Rattle.pm_topofile.proofs.draft.list_of.Given as goal

abbrev pub invariant-loop-item : goal.invariant-loop-item
invariant-loop-item g l = l.list ≡ l.yielded
