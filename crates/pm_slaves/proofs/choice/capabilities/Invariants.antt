use Rattle.std.proofs.Common.{◌≡◌, drop, fold, bit_or}
use Rattle.pm_slaves.specs.Choice.{capabilities}
use Rattle.pm_slaves.proofs.choice.capabilities.Given as goal

-- what is gathered, with what is left, makes the whole
abbrev pub invariant-loop-state : goal.invariant-loop-state
invariant-loop-state l = fold (λ all s. bit_or all s.caps.0) l.all.0 (drop l.state-index l.states) ≡ capabilities l.states
