-- What waits before this place is nothing, so the first note is that of the rest.
use Rattle.std.proofs.Common.{◌≡◌, drop}
use Rattle.std.specs.Prelude.{slice_get}
use Rattle.pm_notify.specs.MasterNotes.{waiting_in}
use Rattle.pm_notify.proofs.master_notes.first_in.Given as goal

abbrev pub invariant-loop-place : goal.invariant-loop-place
invariant-loop-place l = slice_get (waiting_in (drop l.place l.notes)) 0 ≡ slice_get (waiting_in l.notes) 0
