-- The value of the unit stands at its place.
use Rattle.std.proofs.Common.{◌≡◌, None, sym, ◌∙◌}
use Rattle.pm_topology.specs.UnitMap.{place_of}
use Rattle.pm_topology.proofs.UnitMapLaw.{found_at, found_nowhere}
use Rattle.pm_topology.proofs.unit_map.UnitMap.get.Goals as goal

pub returns-in_err-place-clause-value : goal.returns-in_err-place-clause-value
returns-in_err-place-clause-value g c =
    let none : place_of c.args.self.now c.args.unit ≡ None = sym c.place.ensures.place ∙ c.in_err-place.was in
    c.from_residual.ensures ∙ sym (found_nowhere c.args.self.now c.args.unit none)

pub returns-in_err-value-clause-value : goal.returns-in_err-value-clause-value
returns-in_err-value-clause-value g c =
    c.from_residual-in_err-value.ensures
    ∙ sym (found_at c.args.self.now c.args.unit c.in_ok-place.place None (sym c.place.ensures.place ∙ c.in_ok-place.was) (sym c.in_err-value.was ∙ c.entry.ensures))

pub returns-clause-value : goal.returns-clause-value
returns-clause-value g c =
    sym (found_at c.args.self.now c.args.unit c.in_ok-place.place _ (sym c.place.ensures.place ∙ c.in_ok-place.was) (sym c.in_ok-value.was ∙ c.entry.ensures))
