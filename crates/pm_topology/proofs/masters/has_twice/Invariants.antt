use Rattle.std.proofs.Common.{◌≡◌, drop}
use Rattle.pm_topology.specs.Masters.{has_twice}
use Rattle.pm_topology.proofs.masters.has_twice.Given as goal

-- what is left has one twice exactly where the whole list has
abbrev pub invariant-loop-place : goal.invariant-loop-place
invariant-loop-place l = has_twice (drop l.place l.nodes) ≡ has_twice l.nodes
