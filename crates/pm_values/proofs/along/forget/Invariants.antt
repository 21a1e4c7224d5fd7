use Rattle.std.proofs.Common.{◌≡◌, ◌++◌, map, take, drop}
use Rattle.pm_values.specs.Along.{forgotten}
use Rattle.pm_values.proofs.along.forget.Given as goal

-- what became of the modes before the cursor is forgotten, and the rest is as it was
abbrev pub invariant-loop-turn : goal.invariant-loop-turn
invariant-loop-turn l =
    l.turns ≡ map forgotten (take l.turn-index l.initial.turns) ++ drop l.turn-index l.initial.turns
