use Rattle.std.proofs.Common.{ap, ◌∙◌}
use Rattle.pm_topology.specs.UnitMap.{all_at}
use Rattle.pm_topology.proofs.UnitMapLaw.{value_of-first}
use Rattle.pm_topology.proofs.unit_map.UnitMap.load.Goals as goal

pub returns-clause-values : goal.returns-clause-values
returns-clause-values g c = λ unit.
    value_of-first c.args.t.now c.args.value c.in_ok-map.map unit
    (c.in_ok-map.ensures ∙ ap (all_at c.args.value) (c.as_slice.ensures ∙ c.in_ok-units.ensures.list))
