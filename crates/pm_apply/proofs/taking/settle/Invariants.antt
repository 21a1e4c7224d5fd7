use Rattle.std.proofs.Common.{◌-◌, ◌≤◌, length}
use Rattle.pm_topology.specs.Units.{units_of}
use Rattle.pm_state.specs.Values.{value}
use Rattle.pm_apply.proofs.TakingLemmas.{IsPartly}
use Rattle.pm_apply.proofs.TurnsLemmas.{settles}
use Rattle.pm_apply.proofs.taking.settle.Given as goal

-- the units before this place took their values
abbrev pub invariant-units : goal.invariant-units
invariant-units g l = record {
  taken : IsPartly g.D.Device.Does l.book.fixed.topology (λ u. value u l.book) (settles l.book.fixed.topology) l.fn.kept l.fn.out l.fn.dev l.place l.kept l.out l.dev;
  within : l.place ≤ length (units_of l.book.fixed.topology);
  few : l.i ≤ l.place;
}

abbrev pub decreases-units : goal.decreases-units
decreases-units g l = length (units_of l.book.fixed.topology) - l.place
