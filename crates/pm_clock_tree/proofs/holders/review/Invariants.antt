use Rattle.std.proofs.Common.{◌≡◌, ◌++◌, drop, length, take}
use Rattle.pm_clock_tree.specs.Followed.{permitted}
use Rattle.pm_clock_tree.proofs.holders.review.Given as goal

-- those before the cursor, and what stays of the others, are what stays of all
abbrev pub invariant-loop-k : goal.invariant-loop-k
invariant-loop-k g l = record {
  places : length l.enables ≡ length l.initial.enables;
  whole : take l.k l.enables ++ permitted (g.S.Scene.seen l.scene) l.master (drop l.k l.defs) (drop l.k l.enables)
      ≡ permitted (g.S.Scene.seen l.scene) l.master l.defs l.initial.enables;
}
