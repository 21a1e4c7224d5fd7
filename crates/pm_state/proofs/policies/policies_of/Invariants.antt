use Rattle.std.proofs.Common.{◌≡◌, take}
use Rattle.pm_state.specs.Policies.{policies_of}
use Rattle.pm_state.proofs.policies.policies_of.Given as goal

abbrev pub invariant-loop-object : goal.invariant-loop-object
invariant-loop-object l = l.policies ≡ policies_of l.t (take l.object-index l.objects)
