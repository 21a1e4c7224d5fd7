use Rattle.std.proofs.Common.{◌≡◌, length}
use Rattle.pm_state.specs.Chip.{AreKinds}
use Rattle.pm_state.proofs.chip.kinds_of.Given as goal

-- the kinds of the nodes with the numbers so far
abbrev pub invariant-loop-number : goal.invariant-loop-number
invariant-loop-number l = record {
  count : length l.kinds ≡ l.number;
  kinds : AreKinds l.t l.kinds;
}
