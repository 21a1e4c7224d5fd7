use Rattle.std.proofs.Common.{◌≡◌, ◌-◌, ◌≤◌, length}
use Rattle.pm_rows.specs.declared.passes.Pass.TheVariants.{Shift}
use Rattle.pm_rows.specs.Passing.{IsPassing}
use Rattle.pm_rows.proofs.turning.turn_over.Given as goal

abbrev pub invariant-rows : goal.invariant-rows
invariant-rows g l =
    IsPassing (Shift l.m l.from l.to) l.known l.fn.table.entries l.fn.steps l.k l.table l.steps
    × (l.table.slaves ≡ l.fn.table.slaves) × (l.table.room ≡ l.fn.table.room) × (l.k ≤ l.end)

abbrev pub decreases-rows : goal.decreases-rows
decreases-rows g l = l.end - l.k
