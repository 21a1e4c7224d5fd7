use Rattle.std.proofs.Common.{◌-◌, length}
use Rattle.pm_values.specs.Found.{freed_found, value_found}
use Rattle.pm_values.proofs.UnderWay.{IsUnderWay}
use Rattle.pm_values.proofs.moves.log_units.Given as goal

abbrev pub invariant-loop-k : goal.invariant-loop-k
invariant-loop-k l =
    IsUnderWay (value_found l.found) (freed_found l.found) l.found.downs l.found.procs l.kinds l.fn.values
    l.fn.moved l.fn.starts l.fn.notices l.k l.values l.moved l.starts l.notices

abbrev pub decreases-loop-k : goal.decreases-loop-k
decreases-loop-k l = length l.kinds - l.k
