use Rattle.std.proofs.Common.{ap, sym, ◌∙◌}
use Rattle.pm_topology.specs.Units.{rises}
use Rattle.pm_topology.specs.UnitMap.{units_in}
use Rattle.pm_topology.proofs.unit_map.UnitMap.len.Goals as goal

pub returns-clause-rising : goal.returns-clause-rising
returns-clause-rising g c = ap (λ entries. rises (units_in entries)) (sym c.self.view_is) ∙ c.self.invariant.0
