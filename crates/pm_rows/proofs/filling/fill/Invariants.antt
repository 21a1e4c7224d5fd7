use Rattle.pm_rows.specs.Filling.{IsFilling}
use Rattle.pm_rows.proofs.filling.fill.Given as goal

abbrev pub invariant-loop-k : goal.invariant-loop-k
invariant-loop-k g l = IsFilling l.known l.seeds l.fn.table l.k l.table
