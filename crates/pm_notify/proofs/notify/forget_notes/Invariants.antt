use Rattle.std.proofs.Common.{◌≡◌, ◌++◌, map, take, drop}
use Rattle.pm_notify.specs.MasterNotes.{without_notifiers}
use Rattle.pm_notify.proofs.notify.forget_notes.Given as goal

-- the masters before the cursor ask for nothing, and the notes of the others are as they were
abbrev pub invariant-loop-master_notes : goal.invariant-loop-master_notes
invariant-loop-master_notes l =
    l.notes ≡ map without_notifiers (take l.master_notes-index l.initial.notes) ++ drop l.master_notes-index l.initial.notes
