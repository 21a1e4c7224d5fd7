use Rattle.std.proofs.Common.{◌≡◌, drop}
use Rattle.pm_calls.proofs.WakeLemmas.{wake_each}
use Rattle.pm_calls.proofs.WakeWritten.{write_each}
use Rattle.pm_calls.proofs.events.wake_armed.Given as goal

-- the rows that are left wake their processors after those that did
abbrev pub invariant-loop-k : goal.invariant-loop-k
invariant-loop-k l = record {
  fixed : l.tables.fixed ≡ l.initial.tables.fixed;
  rows : l.tables.now.core.rows ≡ l.initial.tables.now.core.rows;
  whole : wake_each l.tables.fixed l.s (drop l.k l.initial.tables.now.core.rows.entries) l.tables.now
      ≡ wake_each l.initial.tables.fixed l.s l.initial.tables.now.core.rows.entries l.initial.tables.now;
  written : write_each l.tables.fixed l.s (drop l.k l.initial.tables.now.core.rows.entries) l.tables.now l.changes
      ≡ write_each l.initial.tables.fixed l.s l.initial.tables.now.core.rows.entries l.initial.tables.now l.fn.changes;
}
