use Rattle.std.proofs.Common.{◌∙◌, ◌<◌, length, ap, arith}
use Rattle.pm_topology.specs.UnitMap.{with_value_at}
use Rattle.pm_notify.proofs.ClearLemmas.{clear_step}
use Rattle.pm_notify.proofs.master_notes.clear_all.Goals as goal

pub loop-place-preserved : goal.loop-place-preserved
loop-place-preserved c =
    let within : c.loop-place.place < length c.args.notes.now = omega (arith, c.len-place-end.ensures.len) in
    clear_step c.unit_map_places.ensures c.args.notes.now c.loop-place.notes c.set_at.new.self c.loop-place.place within c.loop-place.invariant
    (c.set_at.ensures.entries ∙ ap (λ notes. with_value_at c.loop-place.place notes c.loop-place.notes) c.none.ensures)
