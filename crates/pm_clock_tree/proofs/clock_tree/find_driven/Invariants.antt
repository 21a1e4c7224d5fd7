use Rattle.std.proofs.Common.{◌≡◌, ◌+◌, drop, length}
use Rattle.pm_clock_tree.specs.Tree.{running_from}
use Rattle.pm_clock_tree.proofs.clock_tree.find_driven.Given as goal

-- from the clocks before the cursor the others come to what all come to
abbrev pub invariant-loop-k : goal.invariant-loop-k
invariant-loop-k l = record {
  room : l.running.room ≡ l.fn.running.room;
  count : length l.running.items ≡ length l.fn.running.items + l.k;
  whole : running_from l.running.items l.tree.holders l.k (drop l.k l.defs) (drop l.k l.settings)
      ≡ running_from l.fn.running.items l.tree.holders 0 l.defs l.settings;
}
