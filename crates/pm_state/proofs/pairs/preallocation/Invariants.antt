use Rattle.std.proofs.Common.{◌≡◌, drop}
use Rattle.pm_state.specs.Pairs.{first_among}
use Rattle.pm_state.proofs.pairs.preallocation.Given as goal

-- no group that was looked at has one
abbrev pub invariant-loop-group : goal.invariant-loop-group
invariant-loop-group l =
    first_among l.master l.slave (drop l.group-index l.object.groups) ≡ first_among l.master l.slave l.object.groups
