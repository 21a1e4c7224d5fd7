-- The units before this place have nothing more, and the others are as they were.
use Rattle.std.proofs.Common.{◌≡◌, ◌++◌, drop, take}
use Rattle.pm_topology.specs.UnitMap.{mapped}
use Rattle.pm_notify.specs.MasterNotes.{nothing_more}
use Rattle.pm_notify.proofs.master_notes.clear_all.Given as goal

abbrev pub invariant-loop-place : goal.invariant-loop-place
invariant-loop-place l = l.notes ≡ mapped nothing_more (take l.place l.initial.notes) ++ drop l.place l.initial.notes
