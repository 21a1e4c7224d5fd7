use Rattle.std.proofs.Common.{◌≡◌, ◌++◌, drop, replicate}
use Rattle.pm_rows.specs.Counted.{blank_row}
use Rattle.pm_rows.proofs.fitting.blank_all.Given as goal

abbrev pub invariant-loop-k : goal.invariant-loop-k
invariant-loop-k l = l.cells ≡ replicate l.k blank_row ++ drop l.k l.fn.cells
