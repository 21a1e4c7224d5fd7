use Rattle.std.proofs.Common.{List, subst, sym, ◌∙◌, inr, inl}
use Rattle.pm_core.specs.Outbox.{outputs_in}
use Rattle.pm_apply.specs.Part.{answers_in, orders_in}
use Rattle.pm_record.specs.Record.{kept_value}
use Rattle.pm_apply.proofs.AlikeLemmas.{alike_part}
use Rattle.pm_record.proofs.MarkingLemmas.{all_marked, record_marked, same_values}
use Rattle.pm_base.specs.declared.names.Unit.{Unit}
use Rattle.pm_topology.specs.UnitMap.{units_in}
use Rattle.pm_record.specs.Marks.{Marks}
use Rattle.pm_apply.proofs.commands.carry_all.Goals as goal

pub carry-requires-clause-record : goal.carry-requires-clause-record
carry-requires-clause-record g c =
    record_marked (record { units = c.units_stand_in_order.ensures; kinds = c.kinds_are_exact.ensures; table = c.unit_maps.ensures }) c.args.book.now.fixed.topology (units_in c.args.kept.now) c.args.kept.now c.mark_each.new.self c.requires.«record» c.mark_each.ensures

pub carry-requires-clause-marked : goal.carry-requires-clause-marked
carry-requires-clause-marked g c = λ unit has.
    inr (inl (all_marked (record { units = c.units_stand_in_order.ensures; kinds = c.kinds_are_exact.ensures; table = c.unit_maps.ensures }) c.args.book.now.fixed.topology c.args.kept.now c.mark_each.new.self c.requires.«record»
    (subst (λ (units : List Unit). Marks units c.args.kept.now c.mark_each.new.self) c.requires.«record».units c.mark_each.ensures) unit has))

pub returns-clause-part : goal.returns-clause-part
returns-clause-part g c =
    c.carry.ensures.part
    ∙ alike_part (record { units = c.units_stand_in_order.ensures; kinds = c.kinds_are_exact.ensures; table = c.unit_maps.ensures }) c.mark_each.new.self c.args.kept.now c.args.book.now c.mark_each.ensures.alike (answers_in c.carry.new.out) (outputs_in c.args.out.now)

pub returns-clause-stands : goal.returns-clause-stands
returns-clause-stands g c = λ seen stands.
    c.carry.ensures.stands seen
    (λ unit. stands unit ∙ sym (same_values (record { units = c.units_stand_in_order.ensures; kinds = c.kinds_are_exact.ensures; table = c.unit_maps.ensures }) (units_in c.args.kept.now) c.args.kept.now c.mark_each.new.self c.mark_each.ensures unit))

pub returns-clause-ordered : goal.returns-clause-ordered
returns-clause-ordered g c =
    c.orders_join.ensures.alike c.args.book.now.fixed.topology (kept_value c.mark_each.new.self) (kept_value c.args.kept.now) (orders_in c.carry.new.out)
    (same_values (record { units = c.units_stand_in_order.ensures; kinds = c.kinds_are_exact.ensures; table = c.unit_maps.ensures }) (units_in c.args.kept.now) c.args.kept.now c.mark_each.new.self c.mark_each.ensures)
    c.carry.ensures.ordered
