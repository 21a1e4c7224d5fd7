-- A write at a place leaves the units.
use Rattle.std.proofs.Common.{◌≡◌, ◌≤◌, List, length, ap, sym, ◌∙◌, subst, arith}
use Rattle.pm_base.specs.declared.names.Unit.{Unit}
use Rattle.pm_topology.specs.Units.{rises}
use Rattle.pm_topology.specs.UnitMap.{AreNodePlaces, units_in, with_value_at}
use Rattle.pm_topology.proofs.UnitMapLaw.{places_stay, with_value_at-is, set_past, units_in-with_at}
use Rattle.pm_topology.proofs.unit_map.UnitMap.set_at.Goals as goal

pub invariant_of-self : goal.invariant_of-self
invariant_of-self g c =
    let entries = c.self.inside.entries.entries in
    let written = with_value_at-is entries c.args.place c.args.value in
    let rising = ap rises (units_in-with_at c.args.place c.args.value entries) ∙ c.self.invariant.0 in
    let places = places_stay c.args.place c.args.value entries c.self.inside.places c.self.invariant.1 in (
      ap (λ es. rises (units_in es)) written ∙ rising,
      subst (λ (es : List (Unit × g.row.T.Denot)). AreNodePlaces es c.self.inside.places) (sym written) places,
    )

pub returns-then-place-len-clause-entries : goal.returns-then-place-len-clause-entries
returns-then-place-len-clause-entries g c =
    with_value_at-is c.self.inside.entries.entries c.args.place c.args.value ∙ ap (with_value_at c.args.place c.args.value) c.self.view_is

pub returns-then-place-len-clause-units : goal.returns-then-place-len-clause-units
returns-then-place-len-clause-units g c =
    let entries = c.self.inside.entries.entries in
    ap units_in (with_value_at-is entries c.args.place c.args.value)
    ∙ units_in-with_at c.args.place c.args.value entries
    ∙ ap units_in c.self.view_is

pub returns-else-place-len-clause-entries : goal.returns-else-place-len-clause-entries
returns-else-place-len-clause-entries g c =
    let out : length c.self.inside.entries.entries ≤ c.args.place = omega (arith, c.len.ensures.len, c.if-place-len.false) in
    subst (λ (es : List (Unit × g.row.T.Denot)). es ≡ with_value_at c.args.place c.args.value es) c.self.view_is
    (set_past c.args.place c.args.value c.self.inside.entries.entries out)
