use Rattle.std.proofs.Common.{◌≡◌, ◌++◌, drop}
use Rattle.pm_state.specs.Pairs.{permitted_of_masters}
use Rattle.pm_state.proofs.pairs.push_permitted_on.Given as goal

-- the pairs put in so far and those of the masters that are left make the whole
abbrev pub invariant-loop-m : goal.invariant-loop-m
invariant-loop-m l = l.pairs ++ permitted_of_masters l.object l.m l.place l.slave l.entry (drop l.m l.object.masters)
    ≡ l.fn.pairs ++ permitted_of_masters l.object 0 l.place l.slave l.entry l.object.masters
