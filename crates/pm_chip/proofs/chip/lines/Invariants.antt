use Rattle.std.proofs.Common.{◌≡◌, ◌++◌, take, map}
use Rattle.pm_chip.specs.Chip.{line_of}
use Rattle.pm_chip.proofs.chip.lines.Given as goal

abbrev pub invariant-loop-slave : goal.invariant-loop-slave
invariant-loop-slave l = l.lines ≡ map (λ p. line_of p.node) l.fn.procs ++ map (λ s. line_of s.node) (take l.slave-index l.slaves)
