use Rattle.std.proofs.Common.{◌≡◌, length}
use Rattle.test_counts.proofs.cells.wrong_write.Given as goal

abbrev pub invariant-writes : goal.invariant-writes
invariant-writes g l = length l.cells ≡ 3
