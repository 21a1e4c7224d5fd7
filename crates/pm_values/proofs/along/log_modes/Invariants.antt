use Rattle.std.proofs.Common.{◌≡◌, ◌++◌, length, take, drop}
use Rattle.pm_values.specs.Along.{mode_beside, modes_of}
use Rattle.pm_state.specs.Values.{placed}
use Rattle.pm_values.proofs.along.log_modes.Given as goal

-- the modes of the masters before place m are written, and with those that are left they make the whole
abbrev pub invariant-loop-m : goal.invariant-loop-m
invariant-loop-m l = record {
  places : length l.modes ≡ length l.tables.fixed.object.masters;
  modes : take l.m l.modes ++ placed (mode_beside l.tables) l.m (drop l.m l.tables.fixed.object.masters) ≡ modes_of l.tables;
}
