-- The masters that are left are alike exactly where all are.
use Rattle.std.proofs.Common.{◌≡◌, length, drop}
use Rattle.pm_object.specs.Attached.{have_same_masters}
use Rattle.pm_object.proofs.attached.have_same_masters.Given as goal

abbrev pub invariant-loop-k : goal.invariant-loop-k
invariant-loop-k l = have_same_masters (drop l.k l.a) (drop l.k l.b) ≡ have_same_masters l.a l.b
