use Rattle.std.proofs.Common.{◌≡◌, ◌++◌, take, map, false}
use Rattle.pm_power.specs.Needs.{child}
use Rattle.pm_power.proofs.child.push_procs.Given as goal

abbrev pub invariant-loop-proc : goal.invariant-loop-proc
invariant-loop-proc l =
    l.children.items ≡ l.initial.children.items ++ map (λ p. child p.node p.parent false) (take l.proc-index l.procs)
