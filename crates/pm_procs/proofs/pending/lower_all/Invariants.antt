use Rattle.std.proofs.Common.{◌≡◌, ◌++◌, map, take, drop}
use Rattle.std.specs.Prelude.{option_map}
use Rattle.pm_procs.specs.Pending.{lowered}
use Rattle.pm_procs.proofs.pending.lower_all.Given as goal

-- the requests before the cursor are lowered, and the rest are as they were
abbrev pub invariant-loop-request : goal.invariant-loop-request
invariant-loop-request l =
    l.pending ≡ map (option_map (lowered l.count)) (take l.request-index l.initial.pending) ++ drop l.request-index l.initial.pending
