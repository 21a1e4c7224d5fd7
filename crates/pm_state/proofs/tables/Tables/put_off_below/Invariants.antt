use Rattle.std.proofs.Common.{◌≡◌, drop}
use Rattle.std.specs.List.{flat_map}
use Rattle.pm_state.specs.Below.{procs_below}
use Rattle.pm_state.specs.Changes.{written_by}
use Rattle.pm_state.specs.Prims.{changed}
use Rattle.pm_state.specs.Scope.{off}
use Rattle.pm_state.proofs.tables.Tables.put_off_below.Given as goal

-- the processors that are left make the whole with those that went off
abbrev pub invariant-loop-k : goal.invariant-loop-k
invariant-loop-k l = record {
  fixed : l.self.fixed ≡ l.initial.self.fixed;
  whole : changed (flat_map (off l.initial.self.fixed) (drop l.k (procs_below l.initial.self.fixed.topology l.fn.w))) l.self
      ≡ changed (flat_map (off l.initial.self.fixed) (procs_below l.initial.self.fixed.topology l.fn.w)) l.initial.self;
  written : written_by (flat_map (off l.initial.self.fixed) (drop l.k (procs_below l.initial.self.fixed.topology l.fn.w))) l.self l.changes
      ≡ written_by (flat_map (off l.initial.self.fixed) (procs_below l.initial.self.fixed.topology l.fn.w)) l.initial.self l.fn.changes;
}
