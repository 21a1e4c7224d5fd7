use Rattle.std.proofs.Common.{◌≡◌, take, map}
use Rattle.pm_chip.specs.Chip.{line_of}
use Rattle.pm_chip.proofs.chip.proc_lines.Given as goal

abbrev pub invariant-loop-proc : goal.invariant-loop-proc
invariant-loop-proc l = l.lines ≡ map (λ p. line_of p.node) (take l.proc-index l.procs)
