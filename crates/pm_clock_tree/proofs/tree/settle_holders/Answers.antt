use Rattle.std.proofs.Common.{◌∙◌, sym, arith}
use Rattle.std.proofs.lemmas.List.{get_or_default, get_or-set_other}
use Rattle.pm_base.proofs.InPlace.{map_step}
use Rattle.pm_clock_tree.specs.Followed.{settled_holder}
use Rattle.pm_clock_tree.proofs.HolderLemmas.{same_step}
use Rattle.pm_clock_tree.proofs.tree.settle_holders.Goals as goal

pub loop-holder-preserved : goal.loop-holder-preserved
loop-holder-preserved g c = record {
  whole = map_step (settled_holder (g.S.Scene.seen c.args.scene.now)) c.args.holders.now c.loop-holder.holders c.loop-holder.holder-index _ _ (omega arith)
      c.loop-holder.invariant.whole
      (get_or_default c.loop-holder.holders c.loop-holder.holder-index _ _ (omega arith))
      c.settle-one.ensures.holder;
  rest = λ j d past. get_or-set_other c.loop-holder.holders c.loop-holder.holder-index j _ d (omega (arith, past))
      ∙ c.loop-holder.invariant.rest j d (omega (arith, past));
  same = λ none. same_step c.loop-holder.holders c.args.holders.now c.loop-holder.holder-index c.settle-one.new.self c.loop-holder.changed c.settle-one.result
      c.loop-holder.invariant.same
      (λ still. c.settle-one.ensures.same still
      ∙ get_or_default c.loop-holder.holders c.loop-holder.holder-index _ c.settle-one.new.self (omega arith))
      (sym c.either-changed.ensures ∙ none);
}
