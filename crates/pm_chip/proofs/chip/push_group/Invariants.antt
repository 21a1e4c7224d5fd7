use Rattle.std.proofs.Common.{◌≡◌, ◌+◌, ◌-◌, ◌++◌}
use Rattle.pm_chip.specs.Chip.{slaves_from}
use Rattle.pm_chip.proofs.chip.push_group.Given as goal

-- what was put, and what is left of the group, make the group
abbrev pub invariant-loop-place : goal.invariant-loop-place
invariant-loop-place l =
    l.slaves ++ slaves_from (l.first + l.place) (l.count - l.place) l.parent l.class
    ≡ l.initial.slaves ++ slaves_from l.first l.count l.parent l.class
