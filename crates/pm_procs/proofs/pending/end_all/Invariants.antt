use Rattle.std.proofs.Common.{◌≡◌, ◌++◌, map, take, drop}
use Rattle.pm_procs.specs.Pending.{dropped}
use Rattle.pm_procs.proofs.pending.end_all.Given as goal

-- the requests before the cursor ended, and the rest are as they were
abbrev pub invariant-loop-request : goal.invariant-loop-request
invariant-loop-request l =
    l.pending ≡ map dropped (take l.request-index l.initial.pending) ++ drop l.request-index l.initial.pending
