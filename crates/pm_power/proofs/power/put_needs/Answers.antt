use Rattle.std.proofs.Common.{◌∙◌, arith}
use Rattle.pm_power.proofs.NeedsSet.{cost_step, put_step, put_len, put_end}
use Rattle.pm_power.proofs.power.put_needs.Goals as goal

pub loop-k-preserved : goal.loop-k-preserved
loop-k-preserved g c = record {
  start = omega (arith, c.loop-k.invariant.start);
  places =
      put_len c.loop-k.children c.loop-k.k c.at_or-need.result c.put_need.new.children c.args.powers.now c.loop-k.steps c.put_need.new.steps
      c.put_need.ensures.children ∙ c.loop-k.invariant.places;
  whole =
      put_step c.args.needs.now c.loop-k.children c.args.from c.args.to c.loop-k.k c.at_or-need.result c.put_need.new.children c.args.powers.now
      c.loop-k.steps c.put_need.new.steps _ c.put_need.ensures.children c.at_or-need.ensures c.loop-k.invariant.start c.loop-k-test.true c.loop-k.invariant.whole;
  forest = record {
    counted = c.put_need.ensures.counted;
    within = c.put_need.ensures.within;
    after = c.loop-k.invariant.forest.after;
  };
  cost =
      cost_step c.args.needs.now c.loop-k.children c.args.from c.args.to c.loop-k.k c.at_or-need.result c.put_need.new.children c.args.powers.now
      c.loop-k.steps c.put_need.new.steps _ c.put_need.ensures.children c.at_or-need.ensures c.loop-k.invariant.start c.loop-k-test.true c.loop-k.invariant.cost;
}

pub returns-clause-children : goal.returns-clause-children
returns-clause-children g c =
    put_end c.args.needs.now _ c.loop-k.children c.args.to c.loop-k.k _ (omega (arith, c.loop-k-test.false)) c.loop-k.invariant.whole
