use Rattle.std.proofs.Common.{◌≡◌, ◌-◌}
use Rattle.pm_state.specs.Changes.{with_masters}
use Rattle.pm_state.proofs.changes.Changes.all_masters.Given as goal

-- the masters that are left make the whole with those that are written down
abbrev pub invariant-loop-m : goal.invariant-loop-m
invariant-loop-m l = with_masters (l.m-end - l.m) l.m l.rows l.self ≡ with_masters l.fn.self.masters.count 0 l.rows l.fn.self
