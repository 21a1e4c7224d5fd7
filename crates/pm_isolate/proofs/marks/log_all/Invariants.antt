-- The units before this place are compared, and the others are as they were.
use Rattle.std.proofs.Common.{◌≡◌, ◌++◌, drop, take}
use Rattle.pm_topology.specs.UnitMap.{mapped}
use Rattle.pm_isolate.specs.Within.{has_differed}
use Rattle.pm_isolate.proofs.marks.log_all.Given as goal

abbrev pub invariant-loop-place : goal.invariant-loop-place
invariant-loop-place l = l.marks ≡ mapped (has_differed l.loud l.quiet) (take l.place l.fn.marks) ++ drop l.place l.fn.marks
