use Rattle.std.proofs.Common.{◌≡◌, ◌++◌, drop}
use Rattle.pm_state.specs.Pairs.{permitted_from, permitted_in}
use Rattle.pm_state.proofs.pairs.permitted_in.Given as goal

-- the pairs put in so far and those of the slaves that are left make the whole
abbrev pub invariant-loop-place : goal.invariant-loop-place
invariant-loop-place l = l.pairs ++ permitted_from l.object l.place (drop l.place l.t.slaves) ≡ permitted_in l.object l.t
