use Rattle.std.proofs.Common.{◌≡◌, ◌++◌, drop}
use Rattle.pm_state.specs.Members.{members_among}
use Rattle.pm_state.proofs.members.members_among.Given as goal

-- the members that are found make the whole with those that are left
abbrev pub invariant-loop-node : goal.invariant-loop-node
invariant-loop-node l =
    l.members ++ members_among l.object l.t l.m (drop l.node-index l.nodes) ≡ members_among l.object l.t l.m l.nodes
