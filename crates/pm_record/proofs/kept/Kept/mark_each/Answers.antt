use Rattle.std.proofs.Common.{◌≡◌, ◌<◌, List, length, slice_get, sym, ap, subst, ◌∙◌, arith, inl, inr}
use Rattle.std.proofs.lemmas.List.{length-map, take_all}
use Rattle.std.proofs.lemmas.Option.{slice_get_cases}
use Rattle.pm_base.specs.declared.names.Unit.{Unit}
use Rattle.pm_topology.specs.UnitMap.{units_in}
use Rattle.pm_record.specs.Marks.{Marks}
use Rattle.pm_record.specs.Record.{Kept}
use Rattle.pm_record.proofs.Below.{ChipLaws}
use Rattle.pm_record.proofs.ListedLemmas.{unit_there}
use Rattle.pm_record.proofs.MarkingLemmas.{marks_next, marks_none, same_units}
use Rattle.pm_record.proofs.kept.Kept.mark_each.Goals as goal

pub loop-place-init : goal.loop-place-init
loop-place-init c = marks_none c.args.self.now

pub loop-place-preserved : goal.loop-place-preserved
loop-place-preserved c =
    let laws : ChipLaws = record { units = c.units_stand_in_order.ensures; kinds = c.kinds_are_exact.ensures; table = c.unit_maps.ensures } in
    let old = c.args.self.now in
    let now = c.loop-place.self in
    let units = same_units laws _ old now c.loop-place.invariant in
    let long : length now ≡ length old = sym (length-map now (λ e. e.0)) ∙ (ap length units ∙ length-map old (λ e. e.0)) in
    let within : c.loop-place.place < length now = omega (arith, long, c.len-place-end.ensures.len, ap (λ (kept : Kept). length kept) c.self.view_is, c.loop-place-test.true) in
    elim ((slice_get_cases now c.loop-place.place).1) [
      | inl there ↦ marks_next laws (units_in old) c.loop-place.place there.0.0 old now c.mark_place.new.self
          (ap (λ units. slice_get units c.loop-place.place) (sym units) ∙ unit_there now c.loop-place.place there.0 there.2) c.loop-place.invariant (c.mark_place.ensures there.0 there.2)
      | inr past ↦ absurd (omega (arith, past.0, within))
    ]

pub returns : goal.returns
returns c =
    let P : List Unit → Type 0 = λ units. Marks units c.args.self.now c.loop-place.self in
    let long = length-map c.args.self.now (λ e. e.0) in
    subst P (take_all c.loop-place.place (units_in c.args.self.now) (omega (arith, long, c.len-place-end.ensures.len, ap (λ (kept : Kept). length kept) c.self.view_is, c.loop-place-test.false))) c.loop-place.invariant
