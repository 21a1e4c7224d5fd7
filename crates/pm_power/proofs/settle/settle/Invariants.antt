use Rattle.std.proofs.Common.{◌≤◌, length}
use Rattle.pm_power.specs.Uses.{AreSettledFrom}
use Rattle.pm_power.proofs.settle.settle.Given as goal

abbrev pub invariant-loop-w : goal.invariant-loop-w
invariant-loop-w g l = record {
  within : l.w ≤ length l.powers;
  settled : AreSettledFrom l.w l.powers l.counts l.ups;
}

abbrev pub decreases-loop-w : goal.decreases-loop-w
decreases-loop-w g l = l.w
