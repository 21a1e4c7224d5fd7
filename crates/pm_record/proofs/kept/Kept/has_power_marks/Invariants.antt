use Rattle.std.proofs.Common.{take}
use Rattle.pm_record.proofs.KindsLemmas.{NonePower}
use Rattle.pm_record.proofs.kept.Kept.has_power_marks.Given as goal

-- none of the units so far is a power node
abbrev pub invariant-loop-place : goal.invariant-loop-place
invariant-loop-place l = NonePower l.t l.self (take l.place-index l.places)
