use Rattle.std.proofs.Common.{◌≡◌, ◌+◌, ◌≤◌, Option, ℕ, length, sym, ap, subst, ◌∙◌, arith}
use Rattle.std.proofs.lemmas.List.{length-map}
use Rattle.pm_base.specs.declared.names.LineId.{LineId}
use Rattle.pm_base.specs.declared.names.Unit.{Unit}
use Rattle.pm_topology.specs.Units.{units_of}
use Rattle.pm_state.specs.Values.{value}
use Rattle.pm_apply.specs.declared.turns.Turn.TheVariants.{Apply}
use Rattle.pm_apply.specs.Carried.{Takes}
use Rattle.pm_apply.specs.Left.{IsFollowed}
use Rattle.pm_apply.specs.Plan.{with_pulse}
use Rattle.pm_apply.specs.Room.{most_of}
use Rattle.pm_record.proofs.Below.{ChipLaws}
use Rattle.pm_apply.proofs.TakingLemmas.{none_settles, part_end, part_followed, part_next, part_over, part_room, part_start, unit_there}
use Rattle.pm_apply.proofs.TurnsLemmas.{settles, length-settles, settle_at}
use Rattle.pm_apply.proofs.taking.settle.Goals as goal

pub units-init : goal.units-init
units-init g c =
    let t = c.args.book.now.fixed.topology in
    let values : Unit → ℕ = λ u. value u c.args.book.now in
    let laws : ChipLaws = record { units = c.units_stand_in_order.ensures; kinds = c.kinds_are_exact.ensures; table = c.unit_maps.ensures } in
    let long : length c.args.kept.now ≡ length (units_of t) = sym (length-map c.args.kept.now (λ e. e.0)) ∙ ap length c.requires.followed.units in
    record {
      taken = part_over g.D.Device.Does t values c.args.kept.now c.args.out.now c.args.dev.now laws c.args.kept.now c.args.out.now c.args.dev.now 0 c.next_marked-place.result c.requires.followed c.next_marked-place.ensures.from c.next_marked-place.ensures.idle
          (part_start g.D.Device.Does t values (settles t) c.args.kept.now c.args.out.now c.args.dev.now);
      within = omega (arith, long, c.next_marked-place.ensures.end);
      few = omega arith;
    }

pub take_unit-requires-clause-followed : goal.take_unit-requires-clause-followed
take_unit-requires-clause-followed g c =
    let t = c.args.book.now.fixed.topology in
    let values : Unit → ℕ = λ u. value u c.args.book.now in
    let laws : ChipLaws = record { units = c.units_stand_in_order.ensures; kinds = c.kinds_are_exact.ensures; table = c.unit_maps.ensures } in
    let P : Option LineId → Type 0 = λ pulse. IsFollowed t values pulse c.units.kept in
    subst P (sym c.units.invariant.taken.rest.pulse) (part_followed g.D.Device.Does t values (settles t) c.args.kept.now c.args.out.now c.args.dev.now laws c.units.place c.units.kept c.units.out c.units.dev (none_settles t) c.requires.followed c.units.invariant.taken)

pub take_unit-requires-clause-room : goal.take_unit-requires-clause-room
take_unit-requires-clause-room g c =
    λ unit here.
    let t = c.args.book.now.fixed.topology in
    let values : Unit → ℕ = λ u. value u c.args.book.now in
    let laws : ChipLaws = record { units = c.units_stand_in_order.ensures; kinds = c.kinds_are_exact.ensures; table = c.unit_maps.ensures } in
    let P : Option LineId → Type 0 = λ pulse. length c.units.out.done.items + most_of t values (with_pulse pulse (Apply unit)) ≤ c.units.out.done.room in
    subst P (sym c.units.invariant.taken.rest.pulse) (part_room g.D.Device.Does t values (settles t) c.args.kept.now c.args.out.now c.args.dev.now c.units.place (Apply unit) c.units.kept c.units.out c.units.dev (settle_at t c.units.place unit here) c.requires.room c.units.invariant.taken)

pub next_behind-place-requires : goal.next_behind-place-requires
next_behind-place-requires g c =
    let t = c.args.book.now.fixed.topology in
    let values : Unit → ℕ = λ u. value u c.args.book.now in
    let laws : ChipLaws = record { units = c.units_stand_in_order.ensures; kinds = c.kinds_are_exact.ensures; table = c.unit_maps.ensures } in
    let one = unit_there (units_of t) c.units.place (omega (arith, c.units-test.true, c.units-units.ensures)) in
    let P : Option LineId → Type 0 = λ pulse. Takes g.D.Device.Does t values (with_pulse pulse (Apply one.0)) c.units.kept c.take_unit.new.kept c.units.out.done.items c.take_unit.new.out.done.items c.units.dev c.take_unit.new.dev in
    let next = part_next g.D.Device.Does t values (settles t) c.args.kept.now c.args.out.now c.args.dev.now c.units.place (Apply one.0) c.units.kept c.take_unit.new.kept c.units.out c.take_unit.new.out c.units.dev c.take_unit.new.dev (settle_at t c.units.place one.0 one.1)
    c.units.invariant.taken (subst P c.units.invariant.taken.rest.pulse (c.take_unit.ensures.takes one.0 one.1)) c.take_unit.ensures.rest
    in
    let followed = part_followed g.D.Device.Does t values (settles t) c.args.kept.now c.args.out.now c.args.dev.now laws (c.units.place + 1) c.take_unit.new.kept c.take_unit.new.out c.take_unit.new.dev (none_settles t) c.requires.followed next in
    let long : length c.take_unit.new.kept ≡ length (units_of t) = sym (length-map c.take_unit.new.kept (λ e. e.0)) ∙ ap length followed.units in
    omega (arith, long, c.units-test.true, c.units-units.ensures)

pub units-preserved : goal.units-preserved
units-preserved g c =
    let t = c.args.book.now.fixed.topology in
    let values : Unit → ℕ = λ u. value u c.args.book.now in
    let laws : ChipLaws = record { units = c.units_stand_in_order.ensures; kinds = c.kinds_are_exact.ensures; table = c.unit_maps.ensures } in
    let one = unit_there (units_of t) c.units.place (omega (arith, c.units-test.true, c.units-units.ensures)) in
    let P : Option LineId → Type 0 = λ pulse. Takes g.D.Device.Does t values (with_pulse pulse (Apply one.0)) c.units.kept c.take_unit.new.kept c.units.out.done.items c.take_unit.new.out.done.items c.units.dev c.take_unit.new.dev in
    let next = part_next g.D.Device.Does t values (settles t) c.args.kept.now c.args.out.now c.args.dev.now c.units.place (Apply one.0) c.units.kept c.take_unit.new.kept c.units.out c.take_unit.new.out c.units.dev c.take_unit.new.dev (settle_at t c.units.place one.0 one.1)
    c.units.invariant.taken (subst P c.units.invariant.taken.rest.pulse (c.take_unit.ensures.takes one.0 one.1)) c.take_unit.ensures.rest
    in
    let followed = part_followed g.D.Device.Does t values (settles t) c.args.kept.now c.args.out.now c.args.dev.now laws (c.units.place + 1) c.take_unit.new.kept c.take_unit.new.out c.take_unit.new.dev (none_settles t) c.requires.followed next in
    let long : length c.take_unit.new.kept ≡ length (units_of t) = sym (length-map c.take_unit.new.kept (λ e. e.0)) ∙ ap length followed.units in
    record {
      taken = part_over g.D.Device.Does t values c.args.kept.now c.args.out.now c.args.dev.now laws c.take_unit.new.kept c.take_unit.new.out c.take_unit.new.dev (c.units.place + 1) c.next_behind-place.result followed (omega (arith, c.next_behind-place.ensures.from))
          (λ k after before. c.next_behind-place.ensures.idle k (omega (arith, after)) before) next;
      within = omega (arith, long, c.next_behind-place.ensures.end);
      few = omega (arith, c.next_behind-place.ensures.from, c.units.invariant.few);
    }

pub units-smaller : goal.units-smaller
units-smaller g c = omega (arith, c.next_behind-place.ensures.from, c.units-test.true, c.units-units.ensures)

pub returns-clause-takes : goal.returns-clause-takes
returns-clause-takes g c =
    let t = c.args.book.now.fixed.topology in
    part_end g.D.Device.Does t (λ u. value u c.args.book.now) (settles t) c.args.kept.now c.args.out.now c.args.dev.now c.units.place c.units.kept c.units.out c.units.dev (omega (arith, length-settles t, c.units-test.false, c.units-units.ensures)) c.units.invariant.taken

pub returns-clause-rest : goal.returns-clause-rest
returns-clause-rest g c = c.units.invariant.taken.rest
