use Rattle.std.proofs.Common.{◌≡◌, ◌++◌, map, take, drop}
use Rattle.pm_procs.specs.Procs.{turned_off}
use Rattle.pm_procs.proofs.procs.turn_off.Given as goal

-- the processors before the cursor are off, and the rest are as they were
abbrev pub invariant-loop-proc : goal.invariant-loop-proc
invariant-loop-proc l =
    l.procs ≡ map turned_off (take l.proc-index l.initial.procs) ++ drop l.proc-index l.initial.procs
