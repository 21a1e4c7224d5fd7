use Rattle.std.proofs.Common.{ℕ, ◌<◌, ◌≤◌}
use Rattle.pm_apply.specs.Visits.{IsIdleAt}
use Rattle.pm_apply.proofs.turns.next_power.Given as goal

-- the turns so far are those of units that don't lag
abbrev pub invariant-loop-k : goal.invariant-loop-k
invariant-loop-k l = (j : ℕ) → l.from ≤ j → j < l.k → IsIdleAt l.book.fixed.topology l.kept j
