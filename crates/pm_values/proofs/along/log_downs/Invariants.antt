use Rattle.std.proofs.Common.{◌≡◌, ◌++◌, length, take, drop}
use Rattle.pm_values.specs.Along.{down_in}
use Rattle.pm_state.specs.Values.{placed}
use Rattle.pm_values.proofs.along.log_downs.Given as goal

-- for the processors before place p it is written whether they are down, and with those that are left it makes the whole
abbrev pub invariant-loop-p : goal.invariant-loop-p
invariant-loop-p l = record {
  places : length l.downs ≡ length l.tables.fixed.topology.procs;
  downs : take l.p l.downs ++ placed (down_in l.tables) l.p (drop l.p l.tables.fixed.topology.procs) ≡ placed (down_in l.tables) 0 l.tables.fixed.topology.procs;
}
