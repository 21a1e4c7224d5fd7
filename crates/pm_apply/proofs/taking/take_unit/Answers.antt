use Rattle.std.proofs.Common.{◌≡◌, ℕ, None, Some, [], ◌∷◌, slice_get, sym, ap, subst, ◌∙◌, arith, refl}
use Rattle.pm_base.specs.declared.names.Unit.{Unit}
use Rattle.pm_state.specs.Values.{value}
use Rattle.std.specs.Option.{option_map}
use Rattle.std.proofs.lemmas.List.Sums.{sum_by-append}
use Rattle.std.proofs.lemmas.Option.{same_Some, slice_get-map}
use Rattle.pm_topology.specs.UnitMap.{units_in}
use Rattle.pm_topology.specs.Units.{units_of}
use Rattle.pm_record.specs.declared.kept.KeptValue.{KeptValue}
use Rattle.pm_apply.specs.declared.turns.Turn.TheVariants.{Apply}
use Rattle.pm_apply.specs.Carried.{Takes}
use Rattle.pm_apply.specs.Plan.{pulse_turn, with_pulse}
use Rattle.pm_apply.specs.Room.{most}
use Rattle.pm_record.proofs.Below.{ChipLaws}
use Rattle.pm_apply.proofs.TakesLemmas.{KeepsRest-trans, Takes-length, Takes-trans}
use Rattle.pm_apply.proofs.TakingLemmas.{KeepsRest-refl, followed_then, most_alone}
use Rattle.pm_apply.proofs.VisitsLemmas.{Each-front, IsPulseOf, are_pulses}
use Rattle.pm_apply.proofs.taking.take_unit.Goals as goal

pub returns-in_default : goal.returns-in_default
returns-in_default g c = record {
  takes = λ unit here.
      let none : slice_get (units_in c.args.kept.now) c.args.place ≡ None = slice_get-map (λ (e : Unit × KeptValue). e.0) c.args.kept.now c.args.place ∙ ap (option_map (λ (e : Unit × KeptValue). e.0)) (sym c.entry.ensures ∙ c.in_default.is) in
      let gone : None ≡ Some unit = sym none ∙ (ap (λ us. slice_get us c.args.place) c.requires.followed.units ∙ here) in
      cc;
  rest = KeepsRest-refl c.args.out.now;
}

pub take_pulse-requires-clause-units : goal.take_pulse-requires-clause-units
take_pulse-requires-clause-units g c = c.requires.followed.units

pub take_pulse-requires-clause-stands : goal.take_pulse-requires-clause-stands
take_pulse-requires-clause-stands g c = c.requires.followed.ready.stands

pub take_pulse-requires-clause-room : goal.take_pulse-requires-clause-room
take_pulse-requires-clause-room g c =
    let t = c.args.book.now.fixed.topology in
    let values : Unit → ℕ = λ u. value u c.args.book.now in
    let laws : ChipLaws = record { units = c.units_stand_in_order.ensures; kinds = c.kinds_are_exact.ensures; table = c.unit_maps.ensures } in
    let pulse = c.args.out.now.pulse in
    let unit = c.in-Some.unit in
    let there : slice_get (units_in c.args.kept.now) c.args.place ≡ Some unit = slice_get-map (λ (e : Unit × KeptValue). e.0) c.args.kept.now c.args.place ∙ ap (option_map (λ (e : Unit × KeptValue). e.0)) (sym c.entry.ensures ∙ c.in-Some.is) in
    let listed : slice_get (units_of t) c.args.place ≡ Some unit = ap (λ us. slice_get us c.args.place) (sym c.requires.followed.units) ∙ there in
    let all = sum_by-append (most t values) (pulse_turn pulse unit) (Apply unit ∷ []) in
    omega (arith, all, c.requires.room unit listed)

pub take_value-requires-clause-units : goal.take_value-requires-clause-units
take_value-requires-clause-units g c =
    let t = c.args.book.now.fixed.topology in
    let values : Unit → ℕ = λ u. value u c.args.book.now in
    let laws : ChipLaws = record { units = c.units_stand_in_order.ensures; kinds = c.kinds_are_exact.ensures; table = c.unit_maps.ensures } in
    let pulse = c.args.out.now.pulse in
    let unit = c.in-Some.unit in
    let each = Each-front (IsPulseOf pulse) (pulse_turn pulse unit) (Apply unit ∷ []) (are_pulses pulse (Apply unit) refl) in
    let followed = followed_then g.D.Device.Does laws t values pulse (pulse_turn pulse unit) c.args.kept.now c.take_pulse.new.kept c.args.out.now.done.items c.take_pulse.new.out.done.items c.args.dev.now c.take_pulse.new.dev c.take_pulse.ensures.takes each c.requires.followed in
    followed.units

pub take_value-requires-clause-there : goal.take_value-requires-clause-there
take_value-requires-clause-there g c =
    let t = c.args.book.now.fixed.topology in
    let values : Unit → ℕ = λ u. value u c.args.book.now in
    let laws : ChipLaws = record { units = c.units_stand_in_order.ensures; kinds = c.kinds_are_exact.ensures; table = c.unit_maps.ensures } in
    let pulse = c.args.out.now.pulse in
    let unit = c.in-Some.unit in
    let each = Each-front (IsPulseOf pulse) (pulse_turn pulse unit) (Apply unit ∷ []) (are_pulses pulse (Apply unit) refl) in
    let followed = followed_then g.D.Device.Does laws t values pulse (pulse_turn pulse unit) c.args.kept.now c.take_pulse.new.kept c.args.out.now.done.items c.take_pulse.new.out.done.items c.args.dev.now c.take_pulse.new.dev c.take_pulse.ensures.takes each c.requires.followed in
    let there : slice_get (units_in c.args.kept.now) c.args.place ≡ Some unit = slice_get-map (λ (e : Unit × KeptValue). e.0) c.args.kept.now c.args.place ∙ ap (option_map (λ (e : Unit × KeptValue). e.0)) (sym c.entry.ensures ∙ c.in-Some.is) in
    let listed : slice_get (units_of t) c.args.place ≡ Some unit = ap (λ us. slice_get us c.args.place) (sym c.requires.followed.units) ∙ there in
    ap (λ us. slice_get us c.args.place) followed.units ∙ listed

pub take_value-requires-clause-room : goal.take_value-requires-clause-room
take_value-requires-clause-room g c =
    let t = c.args.book.now.fixed.topology in
    let values : Unit → ℕ = λ u. value u c.args.book.now in
    let laws : ChipLaws = record { units = c.units_stand_in_order.ensures; kinds = c.kinds_are_exact.ensures; table = c.unit_maps.ensures } in
    let pulse = c.args.out.now.pulse in
    let unit = c.in-Some.unit in
    let there : slice_get (units_in c.args.kept.now) c.args.place ≡ Some unit = slice_get-map (λ (e : Unit × KeptValue). e.0) c.args.kept.now c.args.place ∙ ap (option_map (λ (e : Unit × KeptValue). e.0)) (sym c.entry.ensures ∙ c.in-Some.is) in
    let listed : slice_get (units_of t) c.args.place ≡ Some unit = ap (λ us. slice_get us c.args.place) (sym c.requires.followed.units) ∙ there in
    let all = sum_by-append (most t values) (pulse_turn pulse unit) (Apply unit ∷ []) in
    let own = most_alone t values (Apply unit) in
    let so_far = Takes-length g.D.Device.Does t values (pulse_turn pulse unit) c.args.kept.now c.take_pulse.new.kept c.args.out.now.done.items c.take_pulse.new.out.done.items c.args.dev.now c.take_pulse.new.dev c.take_pulse.ensures.takes in
    omega (arith, all, own, so_far, c.requires.room unit listed, c.take_pulse.ensures.rest.room)

pub returns : goal.returns
returns g c =
    let t = c.args.book.now.fixed.topology in
    let values : Unit → ℕ = λ u. value u c.args.book.now in
    let laws : ChipLaws = record { units = c.units_stand_in_order.ensures; kinds = c.kinds_are_exact.ensures; table = c.unit_maps.ensures } in
    let pulse = c.args.out.now.pulse in
    let unit = c.in-Some.unit in
    let there : slice_get (units_in c.args.kept.now) c.args.place ≡ Some unit = slice_get-map (λ (e : Unit × KeptValue). e.0) c.args.kept.now c.args.place ∙ ap (option_map (λ (e : Unit × KeptValue). e.0)) (sym c.entry.ensures ∙ c.in-Some.is) in
    let listed : slice_get (units_of t) c.args.place ≡ Some unit = ap (λ us. slice_get us c.args.place) (sym c.requires.followed.units) ∙ there in
    record {
      takes = λ other here.
          let same : unit ≡ other = same_Some unit other (sym listed ∙ here) in
          let P : Unit → Type 0 = λ unit. Takes g.D.Device.Does t values (with_pulse pulse (Apply unit)) c.args.kept.now c.take_value.new.kept c.args.out.now.done.items c.take_value.new.out.done.items c.args.dev.now c.take_value.new.dev in
          subst P same
          (Takes-trans g.D.Device.Does t values (pulse_turn pulse unit) (Apply unit ∷ []) c.args.kept.now c.take_pulse.new.kept c.take_value.new.kept c.args.out.now.done.items c.take_pulse.new.out.done.items c.take_value.new.out.done.items
          c.args.dev.now c.take_pulse.new.dev c.take_value.new.dev c.take_pulse.ensures.takes c.take_value.ensures.takes);
      rest = KeepsRest-trans c.args.out.now c.take_pulse.new.out c.take_value.new.out c.take_pulse.ensures.rest c.take_value.ensures.rest;
    }
