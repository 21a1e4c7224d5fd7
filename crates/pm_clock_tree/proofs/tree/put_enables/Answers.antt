use Rattle.std.proofs.Common.{arith}
use Rattle.std.proofs.lemmas.List.{get_or_default}
use Rattle.pm_base.proofs.InPlace.{map_step}
use Rattle.pm_clock_tree.specs.Served.{with_enable}
use Rattle.pm_clock_tree.proofs.tree.put_enables.Goals as goal

pub loop-holder-preserved : goal.loop-holder-preserved
loop-holder-preserved c =
    map_step (with_enable c.args.master c.args.k c.args.on) c.args.holders.now c.loop-holder.holders c.loop-holder.holder-index _ _ (omega arith)
    c.loop-holder.invariant
    (get_or_default c.loop-holder.holders c.loop-holder.holder-index _ _ (omega arith))
    c.put.ensures
