use Rattle.std.proofs.Common.{arith}
use Rattle.std.proofs.lemmas.List.{get_or_default}
use Rattle.pm_base.proofs.InPlace.{map_step}
use Rattle.pm_notify.specs.MasterNotes.{without_notifiers}
use Rattle.pm_notify.proofs.notify.forget_notes.Goals as goal

pub loop-master_notes-preserved : goal.loop-master_notes-preserved
loop-master_notes-preserved c =
    map_step without_notifiers c.args.notes.now c.loop-master_notes.notes c.loop-master_notes.master_notes-index _ _ (omega arith)
    c.loop-master_notes.invariant
    (get_or_default c.loop-master_notes.notes c.loop-master_notes.master_notes-index _ _ (omega arith))
    c.forget.ensures
