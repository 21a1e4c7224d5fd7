use Rattle.std.proofs.Common.{◌≡◌}
use Rattle.pm_split.specs.Boxes.{waiting_from}
use Rattle.pm_split.proofs.boxes.take_next.Given as goal

abbrev pub invariant-loop-bit : goal.invariant-loop-bit
invariant-loop-bit l = (l.boxes ≡ l.fn.boxes) × (waiting_from l.object l.fn.boxes l.first ≡ waiting_from l.object l.fn.boxes l.bit)
