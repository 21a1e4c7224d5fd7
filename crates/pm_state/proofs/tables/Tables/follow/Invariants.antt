use Rattle.std.proofs.Common.{◌≡◌, drop}
use Rattle.pm_state.specs.Prims.{changed}
use Rattle.pm_state.specs.Changes.{written_by}
use Rattle.pm_state.specs.Stages.{follow, follow_from, followed}
use Rattle.pm_state.proofs.tables.Tables.follow.Given as goal

-- the masters that are left make the whole with those that followed
abbrev pub invariant-loop-m : goal.invariant-loop-m
invariant-loop-m l = record {
  fixed : l.self.fixed ≡ l.initial.self.fixed;
  whole : changed (follow_from l.self.fixed l.self.now.core l.m (drop l.m l.initial.self.fixed.object.masters)) l.self ≡ followed l.initial.self;
  written : written_by (follow_from l.self.fixed l.self.now.core l.m (drop l.m l.initial.self.fixed.object.masters)) l.self l.changes
      ≡ written_by (follow l.initial.self) l.initial.self l.fn.changes;
}
