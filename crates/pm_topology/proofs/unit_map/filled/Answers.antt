-- The units of the table are these, which rise, and their places were kept.
use Rattle.std.proofs.Common.{ap, ◌∙◌}
use Rattle.pm_topology.specs.Units.{rises}
use Rattle.pm_topology.specs.UnitMap.{units_in}
use Rattle.pm_topology.proofs.UnitMapLaw.{units_in-all}
use Rattle.pm_topology.proofs.unit_map.filled.Goals as goal

pub invariant_of-result : goal.invariant_of-result
invariant_of-result g c =
    let rising = ap (λ entries. rises (units_in entries)) c.in_ok-entries.ensures ∙ ap rises (units_in-all c.args.value c.args.units.now) ∙ c.requires in
    (rising, c.in_ok-places.ensures)
