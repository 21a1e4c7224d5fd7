use Rattle.std.proofs.Common.{◌≡◌, ◌≤◌, ℕ, false, ◌++◌, get_or, map, take, drop}
use Rattle.pm_clock_tree.specs.Followed.{settled_holder}
use Rattle.pm_clock_tree.specs.Tree.{Holder}
use Rattle.pm_clock_tree.proofs.tree.settle_holders.Given as goal

-- the masters before the cursor are settled, and the others are as they were; where nothing may have changed all are
abbrev pub invariant-loop-holder : goal.invariant-loop-holder
invariant-loop-holder g l = record {
  whole : l.holders
      ≡ map (settled_holder (g.S.Scene.seen l.scene)) (take l.holder-index l.initial.holders) ++ drop l.holder-index l.initial.holders;
  rest : (j : ℕ) (d : Holder) → l.holder-index ≤ j → get_or l.holders j d ≡ get_or l.initial.holders j d;
  same : l.changed ≡ false → l.holders ≡ l.initial.holders;
}
