use Rattle.std.proofs.Common.{◌≡◌, drop}
use Rattle.std.specs.Prelude.{max}
use Rattle.pm_state.specs.Policies.{most_of}
use Rattle.pm_state.proofs.policies.most_of.Given as goal

-- the most so far, or of those that are left
abbrev pub invariant-loop-policy : goal.invariant-loop-policy
invariant-loop-policy l = max l.most (most_of (drop l.policy-index l.policies)) ≡ most_of l.policies
