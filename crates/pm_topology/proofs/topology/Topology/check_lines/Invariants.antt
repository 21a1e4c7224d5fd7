use Rattle.std.proofs.Common.{◌≡◌, drop}
use Rattle.pm_topology.specs.FirstFault.{first_fault_from, line_cause}
use Rattle.pm_topology.proofs.topology.Topology.check_lines.Given as goal

-- the first fault of what is left is that of the list
abbrev pub invariant-loop-place : goal.invariant-loop-place
invariant-loop-place l =
    first_fault_from (line_cause l.self) l.place (drop l.place l.line-items) ≡ first_fault_from (line_cause l.self) 0 l.self.lines
