use Rattle.std.proofs.Common.{◌-◌, ◌≤◌, length}
use Rattle.pm_topology.specs.Units.{units_of}
use Rattle.pm_apply.proofs.UsedLemmas.{NoneUses}
use Rattle.pm_apply.proofs.uses.is_used.Given as goal

-- the units before this place don't use the power node
abbrev pub invariant-units : goal.invariant-units
invariant-units l = record {
  none : NoneUses l.book.fixed.topology l.place l.kept l.at;
  within : l.at ≤ length (units_of l.book.fixed.topology);
  few : l.i ≤ l.at;
}

abbrev pub decreases-units : goal.decreases-units
decreases-units l = length (units_of l.book.fixed.topology) - l.at
