use Rattle.std.proofs.Common.{ℕ, Bool, Option, List, refl, rules, subst, sym}
use Rattle.pm_base.specs.declared.names.LineId.{LineId}
use Rattle.pm_base.specs.declared.names.Unit.{Unit}
use Rattle.pm_core.specs.Outbox.{Outputs}
use Rattle.pm_apply.specs.Carried.{DifferencesAreMarked, Takes}
use Rattle.pm_apply.specs.Part.{orders_in, part_of}
use Rattle.pm_apply.specs.Plan.{turns_of}
use Rattle.pm_state.specs.Values.{value}
use Rattle.pm_apply.proofs.AlikeLemmas.{alike_part}
use Rattle.pm_record.proofs.Below.{ChipLaws}
use Rattle.pm_apply.proofs.CarryLemmas.{IsSafe, carried, stands_then}
use Rattle.pm_apply.proofs.RestsLemmas.{rests_marked, rests_takes, rests_told}
use Rattle.pm_apply.proofs.commands.carry.Goals as goal

pub returns-then-is_at_rest : goal.returns-then-is_at_rest
returns-then-is_at_rest g c =
    let kept = c.args.kept.now in
    let book = c.args.book.now in
    let out = c.args.out.now in
    let dev = c.args.dev.now in
    let t = book.fixed.topology in
    let values : Unit → ℕ = λ u. value u book in
    let well = c.stays_sound.ensures.formed in
    let laws : ChipLaws = record { units = c.units_stand_in_order.ensures; kinds = c.kinds_are_exact.ensures; table = c.unit_maps.ensures } in
    let safe : (answers : List Bool) (outputs : Outputs) → IsSafe kept book (part_of kept answers book outputs) = λ answers outputs. record {
      ordered = c.each_part_is_safe.ensures.ordered kept answers book outputs well c.requires.«record»;
      explained = c.each_part_is_safe.ensures.explained kept answers book outputs well c.requires.«record»;
      known = c.each_part_is_safe.ensures.known kept answers book outputs well;
      record_of = c.each_part_is_safe.ensures.«record» kept answers book outputs well c.requires.«record»;
      marks = c.each_part_is_safe.ensures.marks kept answers book outputs well c.requires.«record»;
      follows = c.each_part_is_safe.ensures.values kept answers book outputs well c.requires.«record»;
    } in
    let moved = c.is_at_rest.ensures.moved c.if-is_at_rest.true in
    let pulse = c.is_at_rest.ensures.pulse c.if-is_at_rest.true in
    let none = c.is_at_rest.ensures.marks c.if-is_at_rest.true in
    let Found : List Unit → Type 0 = λ units. DifferencesAreMarked t values units kept in
    let found = subst Found moved c.requires.marked in
    let Taken : Option LineId → Type 0 = λ pulse. Takes g.D.Device.Does t values (turns_of t pulse) kept kept out.done.items out.done.items dev dev in
    let takes = subst Taken (sym pulse) (rests_takes laws t values kept well c.requires.«record» none found g.D.Device.Does out.done.items dev) in
    let step = carried g.D.Device.Does kept kept kept kept book out out dev dev safe (λ answers outputs. refl) c.requires.fresh takes
    (rests_told values out kept moved pulse) (rests_marked laws t values kept well c.requires.«record» none found)
    in
    let shown = c.chain_shows.ensures (orders_in out) dev dev step.given in
    record {
      part = step.part;
      given = step.given;
      shown = shown;
      stands = λ seen stands. stands;
      marks = step.safe.marks;
      ordered = step.safe.ordered;
      explained = step.safe.explained;
      known = step.safe.known;
      «record» = c.requires.«record»;
      room = search rules;
      ready = c.requires.room;
      moved = refl;
      pulse = refl;
      starts = refl;
      late = refl;
      callbacks = refl;
    }

pub returns : goal.returns
returns g c =
    let kept = c.args.kept.now in
    let left = c.carry_on.new.kept in
    let book = c.args.book.now in
    let out = c.carry_on.new.out in
    let dev = c.args.dev.now in
    let goes = c.carry_on.ensures in
    let well = c.stays_sound.ensures.formed in
    let safe : (answers : List Bool) (outputs : Outputs) → IsSafe kept book (part_of kept answers book outputs) = λ answers outputs. record {
      ordered = c.each_part_is_safe.ensures.ordered kept answers book outputs well c.requires.«record»;
      explained = c.each_part_is_safe.ensures.explained kept answers book outputs well c.requires.«record»;
      known = c.each_part_is_safe.ensures.known kept answers book outputs well;
      record_of = c.each_part_is_safe.ensures.«record» kept answers book outputs well c.requires.«record»;
      marks = c.each_part_is_safe.ensures.marks kept answers book outputs well c.requires.«record»;
      follows = c.each_part_is_safe.ensures.values kept answers book outputs well c.requires.«record»;
    } in
    let step = carried g.D.Device.Does kept goes.start goes.left left book c.args.out.now out dev c.carry_on.new.dev
    safe (alike_part (record { units = c.units_stand_in_order.ensures; kinds = c.kinds_are_exact.ensures; table = c.unit_maps.ensures }) goes.start kept book goes.alike) c.requires.fresh goes.takes
    goes.answer goes.marks
    in
    let shown = c.chain_shows.ensures (orders_in out) dev c.carry_on.new.dev step.given in
    record {
      part = step.part;
      given = step.given;
      shown = shown;
      stands = λ seen stands. stands_then (orders_in out) kept left (g.D.Device.state dev) (g.D.Device.state c.carry_on.new.dev) step.safe.follows (shown.values seen) stands;
      marks = step.safe.marks;
      ordered = step.safe.ordered;
      explained = step.safe.explained;
      known = step.safe.known;
      «record» = step.safe.record_of;
      room = search rules;
      ready = search rules;
      moved = goes.rest.moved;
      pulse = goes.rest.pulse;
      starts = goes.rest.starts;
      late = goes.rest.late;
      callbacks = goes.rest.callbacks;
    }
