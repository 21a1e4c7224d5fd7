-- The place is kept, or a search finds it.
use Rattle.std.proofs.Common.{◌≡◌, Some, ap, sym, ◌∙◌, subst}
use Rattle.std.specs.Prelude.{IfSome}
use Rattle.pm_topology.specs.Units.{rises}
use Rattle.pm_topology.specs.UnitMap.{place_of, units_in}
use Rattle.pm_topology.proofs.unit_map.UnitMap.place.Goals as goal

pub returns-in-None-clause-place : goal.returns-in-None-clause-place
returns-in-None-clause-place g c = c.searched_place.ensures ∙ ap (λ entries. place_of entries c.args.unit) c.self.view_is

pub returns-in-None-clause-rising : goal.returns-in-None-clause-rising
returns-in-None-clause-rising g c = ap (λ entries. rises (units_in entries)) (sym c.self.view_is) ∙ c.self.invariant.0

pub returns-in-Some-clause-rising : goal.returns-in-Some-clause-rising
returns-in-Some-clause-rising g c = ap (λ entries. rises (units_in entries)) (sym c.self.view_is) ∙ c.self.invariant.0

pub returns-in-Some-clause-place : goal.returns-in-Some-clause-place
returns-in-Some-clause-place g c =
    sym (subst (λ o. IfSome o (λ place. place_of c.args.self.now c.args.unit ≡ Some place)) c.in-Some.is c.kept_place.ensures)
