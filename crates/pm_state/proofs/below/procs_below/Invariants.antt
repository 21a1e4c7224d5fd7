use Rattle.std.proofs.Common.{◌≡◌, ◌++◌, drop}
use Rattle.pm_topology.specs.declared.topology.ProcDef.{ProcDef}
use Rattle.pm_topology.specs.Places.{is_below}
use Rattle.pm_state.specs.Below.{passing, procs_below}
use Rattle.pm_state.proofs.below.procs_below.Given as goal

-- the places so far make the whole with those of the processors that are left
abbrev pub invariant-loop-p : goal.invariant-loop-p
invariant-loop-p l =
    l.places ++ passing (λ (proc : ProcDef). is_below l.t l.w proc.node) l.p (drop l.p l.t.procs) ≡ procs_below l.t l.w
