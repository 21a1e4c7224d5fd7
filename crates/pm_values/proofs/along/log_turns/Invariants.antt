use Rattle.std.proofs.Common.{◌≡◌, ◌++◌, length, take, drop}
use Rattle.pm_values.specs.Along.{turns_after}
use Rattle.pm_state.specs.Values.{placed}
use Rattle.pm_values.proofs.along.log_turns.Given as goal

-- for the masters before place m it is written what became of their modes, and with those that are left it makes the whole
abbrev pub invariant-loop-m : goal.invariant-loop-m
invariant-loop-m l = record {
  places : length l.turns ≡ length l.tables.fixed.object.masters;
  rest : drop l.m l.turns ≡ drop l.m l.initial.turns;
  turns : take l.m l.turns ++ placed (turns_after l.modes l.initial.turns l.tables) l.m (drop l.m l.tables.fixed.object.masters)
      ≡ placed (turns_after l.modes l.initial.turns l.tables) 0 l.tables.fixed.object.masters;
}
