use Rattle.std.proofs.Common.{◌≡◌, take}
use Rattle.pm_clock_tree.proofs.clock_tree.find_running.Given as goal

abbrev pub invariant-loop-root : goal.invariant-loop-root
invariant-loop-root l = l.running ≡ record l.fn.running { items = take l.root-index l.root-items }
