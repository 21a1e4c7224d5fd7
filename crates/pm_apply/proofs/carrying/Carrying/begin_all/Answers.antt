use Rattle.std.proofs.Common.{List, subst, ◌∙◌, inr, inl}
use Rattle.pm_base.specs.declared.names.Unit.{Unit}
use Rattle.pm_topology.specs.UnitMap.{units_in}
use Rattle.pm_record.specs.Marks.{Marks}
use Rattle.pm_record.proofs.MarkingLemmas.{all_marked, record_marked}
use Rattle.pm_apply.proofs.carrying.Carrying.begin_all.Goals as goal

pub begin-requires-clause-record : goal.begin-requires-clause-record
begin-requires-clause-record c =
    record_marked (record { units = c.units_stand_in_order.ensures; kinds = c.kinds_are_exact.ensures; table = c.unit_maps.ensures }) c.args.book.now.fixed.topology (units_in c.args.kept.now) c.args.kept.now c.mark_each.new.self c.requires.«record» c.mark_each.ensures

pub begin-requires-clause-marked : goal.begin-requires-clause-marked
begin-requires-clause-marked c = λ unit has.
    inr (inl (all_marked (record { units = c.units_stand_in_order.ensures; kinds = c.kinds_are_exact.ensures; table = c.unit_maps.ensures }) c.args.book.now.fixed.topology c.args.kept.now c.mark_each.new.self c.requires.«record»
    (subst (λ (units : List Unit). Marks units c.args.kept.now c.mark_each.new.self) c.requires.«record».units c.mark_each.ensures) unit has))

pub returns-clause-alike : goal.returns-clause-alike
returns-clause-alike c = λ values. c.begin.ensures.alike values ∙ c.mark_each.ensures.alike values
