use Rattle.std.proofs.Common.{◌≡◌, ◌++◌, length, take, drop}
use Rattle.pm_values.specs.Caches.{use_of}
use Rattle.pm_state.specs.Values.{placed}
use Rattle.pm_values.proofs.notifications.log_uses.Given as goal

-- for the slaves before place s it is written whether they are used, and with those that are left it makes the whole
abbrev pub invariant-loop-s : goal.invariant-loop-s
invariant-loop-s l = record {
  places : length l.used ≡ length l.tables.fixed.topology.slaves;
  used : take l.s l.used ++ placed (use_of l.tables.now.core) l.s (drop l.s l.tables.fixed.topology.slaves) ≡ placed (use_of l.tables.now.core) 0 l.tables.fixed.topology.slaves;
}
