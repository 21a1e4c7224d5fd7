use Rattle.std.proofs.Common.{◌≡◌, ◌++◌, length, take, drop}
use Rattle.pm_state.specs.Values.{placed, chosen, need_of}
use Rattle.pm_values.proofs.needs.choose.Given as goal

-- the states and needs of the slaves before place s are written, and with those that are left they make the whole
abbrev pub invariant-loop-s : goal.invariant-loop-s
invariant-loop-s l = record {
  states_places : length l.states ≡ length l.tables.fixed.topology.slaves;
  needs_places : length l.needs ≡ length l.tables.fixed.topology.slaves;
  states : take l.s l.states ++ placed (chosen l.tables.now.core) l.s (drop l.s l.tables.fixed.topology.slaves) ≡ placed (chosen l.tables.now.core) 0 l.tables.fixed.topology.slaves;
  needs : take l.s l.needs ++ placed (need_of l.tables.now.core) l.s (drop l.s l.tables.fixed.topology.slaves) ≡ placed (need_of l.tables.now.core) 0 l.tables.fixed.topology.slaves;
}
