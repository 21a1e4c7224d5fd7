use Rattle.std.proofs.Common.{length}
use Rattle.pm_gen.proofs.CountLemmas.{IsCounted}
use Rattle.pm_gen.proofs.summary.counts_of.Given as goal

abbrev pub invariant-lines : goal.invariant-lines
invariant-lines l = IsCounted l.counts l.left l.fn.text

abbrev pub decreases-lines : goal.decreases-lines
decreases-lines l = length l.left
