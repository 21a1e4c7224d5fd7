use Rattle.std.proofs.Common.{◌≡◌, ◌++◌, drop}
use Rattle.pm_state.specs.Members.{members_from}
use Rattle.pm_state.proofs.members.members_of.Given as goal

-- the members of the masters before place m make the whole with those of the masters that are left
abbrev pub invariant-loop-m : goal.invariant-loop-m
invariant-loop-m l =
    l.members ++ members_from l.object l.t l.m (drop l.m l.object.masters) ≡ members_from l.object l.t 0 l.object.masters
