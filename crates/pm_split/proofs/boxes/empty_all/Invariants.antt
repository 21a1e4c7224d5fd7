use Rattle.std.proofs.Common.{◌≡◌, ◌++◌, drop, length}
use Rattle.pm_ipi.specs.Mail.{all_empty}
use Rattle.pm_split.proofs.boxes.empty_all.Given as goal

abbrev pub invariant-loop-m : goal.invariant-loop-m
invariant-loop-m l = (length l.boxes ≡ l.masters) × (l.boxes ≡ all_empty l.m ++ drop l.m l.fn.boxes)
