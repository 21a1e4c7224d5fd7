use Rattle.pm_values.specs.Kinds.{AreListed}
use Rattle.pm_values.proofs.kinds.others_of.Given as goal

-- of the units before place k those are listed that are no slave and no reset line
abbrev pub invariant-loop-k : goal.invariant-loop-k
invariant-loop-k l = AreListed l.kinds l.k l.others.items
