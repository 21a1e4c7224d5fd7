use Rattle.std.proofs.Common.{◌≡◌, ◌+◌, length, sym, ap, ◌∙◌, arith}
use Rattle.std.proofs.lemmas.List.{length-map}
use Rattle.pm_topology.specs.declared.topology.Topology.{Topology}
use Rattle.pm_topology.specs.Units.{units_of}
use Rattle.pm_state.specs.Values.{value}
use Rattle.pm_apply.specs.Plan.{uses}
use Rattle.pm_record.proofs.Below.{ChipLaws}
use Rattle.pm_apply.proofs.UsedLemmas.{entry_there, none_first, none_next, none_over, none_used, one_used}
use Rattle.pm_apply.proofs.uses.is_used.Goals as goal

pub units-init : goal.units-init
units-init c =
    let laws : ChipLaws = record { units = c.units_stand_in_order.ensures; kinds = c.kinds_are_exact.ensures; table = c.unit_maps.ensures } in
    let t = c.args.book.now.fixed.topology in
    let long : length c.args.kept.now ≡ length (units_of t) = sym (length-map c.args.kept.now (λ e. e.0)) ∙ ap length c.requires.units in
    record {
      none = none_over laws t (λ u. value u c.args.book.now) c.args.place c.args.power.now c.args.kept.now c.stays_sound.ensures.fed c.requires.there c.requires.down c.requires.units c.requires.stands 0 c.next_marked-at.result
          (none_first t c.args.place c.args.kept.now) c.next_marked-at.ensures.idle;
      within = omega (arith, long, c.next_marked-at.ensures.end);
      few = omega arith;
    }

pub next_behind-at-requires : goal.next_behind-at-requires
next_behind-at-requires c =
    let t = c.args.book.now.fixed.topology in
    let long : length c.args.kept.now ≡ length (units_of t) = sym (length-map c.args.kept.now (λ e. e.0)) ∙ ap length c.requires.units in
    omega (arith, long, c.units-test.true, c.units-units.ensures)

pub units-preserved : goal.units-preserved
units-preserved c =
    let laws : ChipLaws = record { units = c.units_stand_in_order.ensures; kinds = c.kinds_are_exact.ensures; table = c.unit_maps.ensures } in
    let t = c.args.book.now.fixed.topology in
    let long : length c.args.kept.now ≡ length (units_of t) = sym (length-map c.args.kept.now (λ e. e.0)) ∙ ap length c.requires.units in
    record {
      none = none_over laws t (λ u. value u c.args.book.now) c.args.place c.args.power.now c.args.kept.now c.stays_sound.ensures.fed c.requires.there c.requires.down c.requires.units c.requires.stands (c.units.at + 1) c.next_behind-at.result
          (none_next t c.args.place c.args.kept.now c.units.at c.uses_at.result c.units.invariant.none
          (λ e here. c.uses_at.ensures e here ∙ ap (λ (t : Topology). uses t c.args.place e.0 e.1.value) c.topology.ensures.topology) c.if-uses_at.false)
          (λ k after before. c.next_behind-at.ensures.idle k (omega (arith, after)) before);
      within = omega (arith, long, c.next_behind-at.ensures.end);
      few = omega (arith, c.next_behind-at.ensures.from, c.units.invariant.few);
    }

pub units-smaller : goal.units-smaller
units-smaller c = omega (arith, c.next_behind-at.ensures.from, c.units-test.true, c.units-units.ensures)

pub returns-then-uses_at : goal.returns-then-uses_at
returns-then-uses_at c =
    let laws : ChipLaws = record { units = c.units_stand_in_order.ensures; kinds = c.kinds_are_exact.ensures; table = c.unit_maps.ensures } in
    let t = c.args.book.now.fixed.topology in
    let long : length c.args.kept.now ≡ length (units_of t) = sym (length-map c.args.kept.now (λ e. e.0)) ∙ ap length c.requires.units in
    let found = entry_there c.args.kept.now c.units.at (omega (arith, long, c.units-test.true, c.units-units.ensures)) in
    sym (one_used laws t c.args.place c.args.kept.now c.requires.units c.units.at found.0 found.1
    (sym (c.uses_at.ensures found.0 found.1 ∙ ap (λ (t : Topology). uses t c.args.place found.0.0 found.0.1.value) c.topology.ensures.topology) ∙ c.if-uses_at.true))

pub returns : goal.returns
returns c =
    let laws : ChipLaws = record { units = c.units_stand_in_order.ensures; kinds = c.kinds_are_exact.ensures; table = c.unit_maps.ensures } in
    let t = c.args.book.now.fixed.topology in
    sym (none_used laws t c.args.place c.args.kept.now c.requires.units c.units.at (omega (arith, c.units-test.false, c.units-units.ensures)) c.units.invariant.none)
