-- A unit is found by its place, and a command on it fails where it isn't there or is a broken node.
use Rattle.std.proofs.Common.{◌≡◌, Some, None, true, false, refl, ap, sym, ◌∙◌}
use Rattle.std.specs.Prelude.{is_some}
use Rattle.pm_topology.specs.UnitMap.{place_of, value_of}
use Rattle.pm_device.specs.Cells.{is_broken_cell, is_there}
use Rattle.pm_device.proofs.CellsLaw.{answer_by, found_at, placed_nowhere}
use Rattle.pm_device.proofs.cells.working.Goals as goal

pub returns-in_err-place-clause-exact : goal.returns-in_err-place-clause-exact
returns-in_err-place-clause-exact c =
    let none : place_of c.args.cells.now c.args.unit ≡ None = sym c.place.ensures.place ∙ c.in_err-place.was in
    rw c.from_residual.ensures
    (answer_by (is_there c.args.cells.now c.args.unit) (is_broken_cell c.args.cells.now c.args.unit) false (is_broken_cell c.args.cells.now c.args.unit)
    (placed_nowhere c.args.cells.now c.args.unit none) refl)

pub returns-in_err-cell-clause-exact : goal.returns-in_err-cell-clause-exact
returns-in_err-cell-clause-exact c =
    let none : value_of c.args.cells.now c.args.unit ≡ None =
    found_at c.args.cells.now c.args.unit c.in_ok-place.place None (sym c.place.ensures.place ∙ c.in_ok-place.was) (sym c.in_err-cell.was ∙ c.entry.ensures)
    in
    rw c.from_residual-in_err-cell.ensures
    (answer_by (is_there c.args.cells.now c.args.unit) (is_broken_cell c.args.cells.now c.args.unit) false (is_broken_cell c.args.cells.now c.args.unit)
    (ap is_some none) refl)

pub returns-then-is_broken-clause-exact : goal.returns-then-is_broken-clause-exact
returns-then-is_broken-clause-exact c =
    let there : value_of c.args.cells.now c.args.unit ≡ Some c.in_ok-cell.cell =
    found_at c.args.cells.now c.args.unit c.in_ok-place.place _ (sym c.place.ensures.place ∙ c.in_ok-place.was) (sym c.in_ok-cell.was ∙ c.entry.ensures)
    in
    answer_by (is_there c.args.cells.now c.args.unit) (is_broken_cell c.args.cells.now c.args.unit) true true
    (ap is_some there) (sym (c.is_broken.ensures c.args.cells.now there) ∙ c.if-is_broken.true)

pub returns-clause-exact : goal.returns-clause-exact
returns-clause-exact c =
    let there : value_of c.args.cells.now c.args.unit ≡ Some c.in_ok-cell.cell =
    found_at c.args.cells.now c.args.unit c.in_ok-place.place _ (sym c.place.ensures.place ∙ c.in_ok-place.was) (sym c.in_ok-cell.was ∙ c.entry.ensures)
    in
    answer_by (is_there c.args.cells.now c.args.unit) (is_broken_cell c.args.cells.now c.args.unit) true false
    (ap is_some there) (sym (c.is_broken.ensures c.args.cells.now there) ∙ c.if-is_broken.false)

pub returns-clause-cell : goal.returns-clause-cell
returns-clause-cell c =
    found_at c.args.cells.now c.args.unit c.in_ok-place.place _ (sym c.place.ensures.place ∙ c.in_ok-place.was) (sym c.in_ok-cell.was ∙ c.entry.ensures)
