use Rattle.std.proofs.Common.{◌≡◌, drop}
use Rattle.pm_tell.specs.Opening.{forgets_from}
use Rattle.pm_state.specs.Talk.{talked}
use Rattle.pm_tell.specs.Telling.{turns_in}
use Rattle.pm_tell.proofs.opening.forget.Given as goal

-- the masters that are left make the whole with those that forgot
abbrev pub invariant-loop-m : goal.invariant-loop-m
invariant-loop-m l = record {
  fixed : l.tables.fixed ≡ l.initial.tables.fixed;
  core : l.tables.now.core ≡ l.initial.tables.now.core;
  whole : talked (forgets_from (turns_in l.telling) l.m (drop l.m l.initial.tables.fixed.object.masters)) l.tables
      ≡ talked (forgets_from (turns_in l.telling) 0 l.initial.tables.fixed.object.masters) l.initial.tables;
}
