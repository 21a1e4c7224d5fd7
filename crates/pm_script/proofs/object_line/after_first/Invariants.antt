-- The words are the numbers before the cursor but for the first.
use Rattle.std.proofs.Common.{◌≡◌, ◌≤◌, drop, take}
use Rattle.pm_script.proofs.object_line.after_first.Given as goal

abbrev pub invariant-loop-k : goal.invariant-loop-k
invariant-loop-k l = record {
  past : 1 ≤ l.k;
  so_far : l.words ≡ drop 1 (take l.k l.numbers);
}
