use Rattle.std.proofs.Common.{◌≡◌, map, take}
use Rattle.pm_clock_tree.proofs.tree.see_roots.Given as goal

abbrev pub invariant-loop-node : goal.invariant-loop-node
invariant-loop-node g l =
    l.seen ≡ record l.fn.seen { items = map (g.S.Scene.seen l.scene).is_on (take l.node-index l.node-items) }
