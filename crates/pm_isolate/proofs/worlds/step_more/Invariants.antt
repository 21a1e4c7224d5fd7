use Rattle.std.proofs.Common.{◌≡◌, length}
use Rattle.pm_split.specs.Left.{events_left}
use Rattle.pm_isolate.specs.Moves.{line_moves, logged_along}
use Rattle.pm_isolate.proofs.StandLemmas.{IsUnderWay}
use Rattle.pm_isolate.proofs.worlds.step_more.Given as goal

-- the core events that are left lead to the end of the line, and log what it moves
abbrev pub invariant-loop-core : goal.invariant-loop-core
invariant-loop-core l = record {
  way : IsUnderWay l.event l.left l.fn.runner l.runner;
  moves : logged_along l.marks (events_left l.fn.runner.book.fixed.object l.fn.runner.book.fixed.topology l.runner.boxes l.left) l.runner.book l.moves ≡ line_moves l.marks l.event l.fn.runner l.fn.moves;
}

abbrev pub decreases-loop-core : goal.decreases-loop-core
decreases-loop-core l = length (events_left l.fn.runner.book.fixed.object l.fn.runner.book.fixed.topology l.runner.boxes l.left)
