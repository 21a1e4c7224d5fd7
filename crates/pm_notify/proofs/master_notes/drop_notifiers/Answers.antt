use Rattle.std.proofs.Common.{◌∙◌, ◌<◌, length, ap, arith, sym}
use Rattle.pm_topology.specs.UnitMap.{with_value_at}
use Rattle.pm_notify.proofs.ForgetLemmas.{forget_step, is_there}
use Rattle.pm_notify.proofs.master_notes.drop_notifiers.Goals.{in-Some, in_default}
use Rattle.pm_notify.proofs.master_notes.drop_notifiers.Goals as goal

pub loop-place-preserved : goal.loop-place-preserved
loop-place-preserved c =
    let within : c.loop-place.place < length c.args.notes.now = omega (arith, c.len-place-end.ensures.len, c.loop-place-test.true) in
    elim c.match-entry.branch [
      | in-Some w ↦
          rw w.notes-is
          (forget_step c.unit_map_places.ensures c.args.notes.now c.loop-place.notes w.set_at.new.self c.loop-place.place c.loop-place.invariant
          (w.in-Some.field-0-0, w.in-Some.of_node) (sym c.entry.ensures ∙ w.in-Some.is)
          (w.set_at.ensures.entries ∙ ap (λ of_node. with_value_at c.loop-place.place of_node c.loop-place.notes) w.unasked.ensures))
      | in_default w ↦ absurd (is_there c.unit_map_places.ensures c.args.notes.now c.loop-place.notes c.loop-place.notes c.loop-place.place c.loop-place.invariant within (sym c.entry.ensures ∙ w.in_default.is))
    ]
