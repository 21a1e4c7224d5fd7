use Rattle.std.proofs.Common.{◌≡◌, take}
use Rattle.pm_clock_tree.proofs.clock_tree.copy.Given as goal

abbrev pub invariant-loop-on : goal.invariant-loop-on
invariant-loop-on l = l.to ≡ record l.fn.to { items = take l.on-index l.on-items }
