use Rattle.std.proofs.Common.{◌≡◌, ◌++◌, take, map, false}
use Rattle.pm_power.specs.Needs.{child}
use Rattle.pm_power.proofs.child.push_slaves.Given as goal

abbrev pub invariant-loop-slave : goal.invariant-loop-slave
invariant-loop-slave l =
    l.children.items ≡ l.initial.children.items ++ map (λ s. child s.node s.parent false) (take l.slave-index l.slaves)
