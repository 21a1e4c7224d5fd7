-- The units compared so far, and those that are left, make the whole.
use Rattle.std.proofs.Common.{◌≡◌, drop}
use Rattle.pm_isolate.specs.Within.{compared_along}
use Rattle.pm_isolate.proofs.marks.log_along.Given as goal

abbrev pub invariant-loop-place : goal.invariant-loop-place
invariant-loop-place l = compared_along l.loud l.quiet (drop l.place-index l.places) l.marks ≡ compared_along l.loud l.quiet l.places l.fn.marks
