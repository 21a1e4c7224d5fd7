use Rattle.std.proofs.Common.{◌≡◌, ◌++◌, length, take, drop}
use Rattle.pm_state.specs.Values.{placed, run_of}
use Rattle.pm_values.specs.Caches.{FollowRuns}
use Rattle.pm_values.proofs.needs.follow_runs.Given as goal

-- for the processors before place p it is written whether they run, and with those that are left it makes the whole
abbrev pub invariant-loop-p : goal.invariant-loop-p
invariant-loop-p l = record {
  places : length l.runs ≡ length l.tables.fixed.topology.procs;
  follow : FollowRuns (length l.tables.fixed.topology.slaves) l.fn.runs l.runs l.fn.power l.power;
  runs : take l.p l.runs ++ placed (run_of l.tables.now.core) l.p (drop l.p l.tables.fixed.topology.procs) ≡ placed (run_of l.tables.now.core) 0 l.tables.fixed.topology.procs;
}
