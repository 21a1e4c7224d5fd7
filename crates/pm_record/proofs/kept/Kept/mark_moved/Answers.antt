use Rattle.std.proofs.Common.{List, subst}
use Rattle.std.proofs.lemmas.List.{take_all}
use Rattle.std.proofs.lemmas.Option.{slice_get-get_or}
use Rattle.pm_base.specs.declared.names.Unit.{Unit}
use Rattle.pm_record.specs.Marks.{Marks}
use Rattle.pm_record.proofs.MarkingLemmas.{marks_next, marks_none}
use Rattle.pm_record.proofs.kept.Kept.mark_moved.Goals as goal

pub loop-unit-init : goal.loop-unit-init
loop-unit-init c = marks_none c.args.self.now

pub loop-unit-preserved : goal.loop-unit-preserved
loop-unit-preserved c =
    marks_next (record { units = c.units_stand_in_order.ensures; kinds = c.kinds_are_exact.ensures; table = c.unit_maps.ensures }) c.args.units.now c.loop-unit.unit-index _ c.args.self.now c.loop-unit.self c.mark_one.new.self
    (slice_get-get_or c.args.units.now c.loop-unit.unit-index _ c.loop-unit-test.true)
    c.loop-unit.invariant c.mark_one.ensures

pub returns : goal.returns
returns c =
    let P : List Unit → Type 0 = λ units. Marks units c.args.self.now c.loop-unit.self in
    subst P (take_all c.loop-unit.unit-index c.args.units.now c.loop-unit-test.false) c.loop-unit.invariant
