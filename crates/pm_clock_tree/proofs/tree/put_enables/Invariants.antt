use Rattle.std.proofs.Common.{◌≡◌, ◌++◌, map, take, drop}
use Rattle.pm_clock_tree.specs.Served.{with_enable}
use Rattle.pm_clock_tree.proofs.tree.put_enables.Given as goal

-- the masters before the cursor are put, and the others are as they were
abbrev pub invariant-loop-holder : goal.invariant-loop-holder
invariant-loop-holder l =
    l.holders ≡ map (with_enable l.master l.k l.on) (take l.holder-index l.initial.holders) ++ drop l.holder-index l.initial.holders
