-- About the units before this place nothing is asked for, and the others are as they were.
use Rattle.std.proofs.Common.{◌≡◌, ◌++◌, drop, take}
use Rattle.pm_topology.specs.UnitMap.{mapped}
use Rattle.pm_notify.specs.MasterNotes.{only_waiting}
use Rattle.pm_notify.proofs.master_notes.drop_notifiers.Given as goal

abbrev pub invariant-loop-place : goal.invariant-loop-place
invariant-loop-place l = l.notes ≡ mapped only_waiting (take l.place l.initial.notes) ++ drop l.place l.initial.notes
