use Rattle.std.proofs.Common.{ap, ◌∙◌}
use Rattle.pm_topology.specs.Units.{units_of}
use Rattle.pm_topology.specs.UnitMap.{all_at}
use Rattle.pm_device.specs.Cells.{broken_of}
use Rattle.pm_device.proofs.CellsLaw.{none_broken}
use Rattle.pm_device.proofs.cells.idle_cells.Goals as goal

-- all cells are idle
pub returns-clause-broken : goal.returns-clause-broken
returns-clause-broken c =
    ap broken_of c.in_ok-cells.ensures.entries
    ∙ ap (λ cell. broken_of (all_at cell (units_of c.args.t.now))) c.idle.ensures
    ∙ none_broken (units_of c.args.t.now)
