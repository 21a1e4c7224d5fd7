use Rattle.test_two_runs.specs.Sides.{AreSides}
use Rattle.test_two_runs.proofs.both.wrong_turn.Given as goal

abbrev pub invariant-loop-turn : goal.invariant-loop-turn
invariant-loop-turn l = AreSides l.m l.loud.book l.quiet.book
