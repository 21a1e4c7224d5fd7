-- The places put in so far, and those that are left, make the whole.
use Rattle.std.proofs.Common.{◌≡◌, drop}
use Rattle.pm_isolate.specs.Moves.{with_units}
use Rattle.pm_isolate.proofs.moves.Moves.add_units.Given as goal

abbrev pub invariant-loop-unit : goal.invariant-loop-unit
invariant-loop-unit l = with_units l.marks (drop l.unit-index l.units) l.self ≡ with_units l.marks l.units l.fn.self
