use Rattle.std.proofs.Common.{◌≡◌, drop}
use Rattle.pm_state.specs.Changes.{written_by}
use Rattle.pm_state.specs.Prims.{changed}
use Rattle.pm_state.specs.Scope.{of_masters, offs, offs_from}
use Rattle.pm_state.proofs.tables.Tables.put_masters_off.Given as goal

-- the processors that are left make the whole with those that went off
abbrev pub invariant-loop-p : goal.invariant-loop-p
invariant-loop-p l = record {
  fixed : l.self.fixed ≡ l.initial.self.fixed;
  whole : changed (offs_from l.self.fixed (of_masters l.fn.of) l.p (drop l.p l.initial.self.fixed.topology.procs)) l.self
      ≡ changed (offs l.initial.self.fixed (of_masters l.fn.of)) l.initial.self;
  written : written_by (offs_from l.self.fixed (of_masters l.fn.of) l.p (drop l.p l.initial.self.fixed.topology.procs)) l.self l.changes
      ≡ written_by (offs l.initial.self.fixed (of_masters l.fn.of)) l.initial.self l.fn.changes;
}
