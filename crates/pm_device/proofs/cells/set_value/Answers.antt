-- The cell at the place of the unit is set: that of the unit alone.
use Rattle.std.proofs.Common.{◌∙◌}
use Rattle.pm_topology.proofs.UnitMapLaw.{set_at_place}
use Rattle.pm_device.proofs.CellsLaw.{broken_is, broken_rises, broken_stay, units_stay, value_set, values_set}
use Rattle.pm_device.proofs.cells.set_value.Goals as goal

pub returns-in_default-clause-listed : goal.returns-in_default-clause-listed
returns-in_default-clause-listed c = broken_is c.args.cells.now c.args.unit c.working.ensures.ordered

pub returns-in_default-clause-rising : goal.returns-in_default-clause-rising
returns-in_default-clause-rising c = broken_rises c.args.cells.now c.working.ensures.ordered

pub returns-clause-after : goal.returns-clause-after
returns-clause-after c =
    let set = c.set_at.ensures.entries ∙ set_at_place c.args.unit _ c.args.cells.now c.in-Some.place c.working.ensures.ordered c.in-Some.ensures.place in
    value_set c.args.unit c.in-Some.cell c.args.value c.args.cells.now c.set_at.new.self c.in-Some.ensures.cell set

pub returns-clause-values : goal.returns-clause-values
returns-clause-values c =
    let set = c.set_at.ensures.entries ∙ set_at_place c.args.unit _ c.args.cells.now c.in-Some.place c.working.ensures.ordered c.in-Some.ensures.place in
    values_set c.args.unit c.in-Some.cell c.args.value c.args.cells.now c.set_at.new.self c.in-Some.ensures.cell set

pub returns-clause-units : goal.returns-clause-units
returns-clause-units c =
    let set = c.set_at.ensures.entries ∙ set_at_place c.args.unit _ c.args.cells.now c.in-Some.place c.working.ensures.ordered c.in-Some.ensures.place in
    units_stay c.args.unit c.in-Some.cell c.args.value c.args.cells.now c.set_at.new.self c.in-Some.ensures.cell set

pub returns-clause-broken : goal.returns-clause-broken
returns-clause-broken c =
    let set = c.set_at.ensures.entries ∙ set_at_place c.args.unit _ c.args.cells.now c.in-Some.place c.working.ensures.ordered c.in-Some.ensures.place in
    broken_stay c.args.unit c.in-Some.cell c.args.value c.args.cells.now c.set_at.new.self c.in-Some.ensures.cell set c.working.ensures.ordered

pub returns-clause-listed : goal.returns-clause-listed
returns-clause-listed c = broken_is c.args.cells.now c.args.unit c.working.ensures.ordered

pub returns-clause-rising : goal.returns-clause-rising
returns-clause-rising c = broken_rises c.args.cells.now c.working.ensures.ordered
