use Rattle.std.proofs.Common.{List, subst}
use Rattle.pm_base.specs.declared.names.Unit.{Unit}
use Rattle.pm_state.specs.Values.{value}
use Rattle.pm_record.specs.Marks.{Marks}
use Rattle.pm_apply.proofs.ReadyLemmas.{alike_then, ready_then, record_then}
use Rattle.pm_apply.proofs.carrying.Carrying.begin.Goals as goal

pub returns-clause-alike : goal.returns-clause-alike
returns-clause-alike c =
    alike_then (record { units = c.units_stand_in_order.ensures; kinds = c.kinds_are_exact.ensures; table = c.unit_maps.ensures }) c.args.book.now.fixed.topology (λ u. value u c.args.book.now) c.args.out.now.pulse c.args.out.now.moved.items
    c.args.kept.now c.mark_moved.new.self c.mark_pulsed.new.self c.requires.«record» c.requires.marked
    (subst (λ (units : List Unit). Marks units c.args.kept.now c.mark_moved.new.self) c.as_slice.ensures c.mark_moved.ensures) c.mark_pulsed.ensures

pub returns-clause-record : goal.returns-clause-record
returns-clause-record c =
    record_then (record { units = c.units_stand_in_order.ensures; kinds = c.kinds_are_exact.ensures; table = c.unit_maps.ensures }) c.args.book.now.fixed.topology (λ u. value u c.args.book.now) c.args.out.now.pulse c.args.out.now.moved.items
    c.args.kept.now c.mark_moved.new.self c.mark_pulsed.new.self c.requires.«record» c.requires.marked
    (subst (λ (units : List Unit). Marks units c.args.kept.now c.mark_moved.new.self) c.as_slice.ensures c.mark_moved.ensures) c.mark_pulsed.ensures

pub returns-clause-followed : goal.returns-clause-followed
returns-clause-followed c =
    let marks = subst (λ (units : List Unit). Marks units c.args.kept.now c.mark_moved.new.self) c.as_slice.ensures c.mark_moved.ensures in
    let record_of =
    record_then (record { units = c.units_stand_in_order.ensures; kinds = c.kinds_are_exact.ensures; table = c.unit_maps.ensures }) c.args.book.now.fixed.topology (λ u. value u c.args.book.now) c.args.out.now.pulse c.args.out.now.moved.items
    c.args.kept.now c.mark_moved.new.self c.mark_pulsed.new.self c.requires.«record» c.requires.marked marks c.mark_pulsed.ensures
    in
    record {
      units = record_of.units;
      ready = ready_then (record { units = c.units_stand_in_order.ensures; kinds = c.kinds_are_exact.ensures; table = c.unit_maps.ensures }) c.args.book.now.fixed.topology (λ u. value u c.args.book.now) c.args.out.now.pulse c.args.out.now.moved.items
          c.args.kept.now c.mark_moved.new.self c.mark_pulsed.new.self c.requires.«record» c.requires.marked marks c.mark_pulsed.ensures;
    }
