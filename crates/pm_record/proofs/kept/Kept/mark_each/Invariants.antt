use Rattle.std.proofs.Common.{take}
use Rattle.pm_topology.specs.UnitMap.{units_in}
use Rattle.pm_record.specs.Marks.{Marks}
use Rattle.pm_record.proofs.kept.Kept.mark_each.Given as goal

-- the units so far are marked
abbrev pub invariant-loop-place : goal.invariant-loop-place
invariant-loop-place l = Marks (take l.place (units_in l.fn.self)) l.fn.self l.self
