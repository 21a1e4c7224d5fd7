use Rattle.std.proofs.Common.{◌≡◌, ◌++◌, drop}
use Rattle.pm_topology.specs.declared.topology.SlaveDef.{SlaveDef}
use Rattle.pm_topology.specs.Places.{is_below}
use Rattle.pm_state.specs.Below.{passing, slaves_below}
use Rattle.pm_state.proofs.below.slaves_below.Given as goal

-- the places so far make the whole with those of the slaves that are left
abbrev pub invariant-loop-s : goal.invariant-loop-s
invariant-loop-s l =
    l.places ++ passing (λ (slave : SlaveDef). is_below l.t l.w slave.node) l.s (drop l.s l.t.slaves) ≡ slaves_below l.t l.w
