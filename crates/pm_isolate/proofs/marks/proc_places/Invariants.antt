-- The places found so far, and those among the units that are left, make the whole.
use Rattle.std.proofs.Common.{◌≡◌, ◌++◌, drop}
use Rattle.pm_isolate.specs.Marks.{proc_places}
use Rattle.pm_isolate.proofs.marks.proc_places.Given as goal

abbrev pub invariant-loop-place : goal.invariant-loop-place
invariant-loop-place l = l.places.items ++ proc_places l.t l.place (drop l.place l.units) ≡ proc_places l.t 0 l.units
