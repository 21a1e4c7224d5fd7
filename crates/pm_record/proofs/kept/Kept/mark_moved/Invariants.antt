use Rattle.std.proofs.Common.{take}
use Rattle.pm_record.specs.Marks.{Marks}
use Rattle.pm_record.proofs.kept.Kept.mark_moved.Given as goal

-- the units so far are marked
abbrev pub invariant-loop-unit : goal.invariant-loop-unit
invariant-loop-unit l = Marks (take l.unit-index l.units) l.fn.self l.self
