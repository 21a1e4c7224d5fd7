use Rattle.pm_topology.proofs.Upwards.{climb_on}
use Rattle.pm_topology.proofs.places.is_on_way_up.Goals as goal

pub loop-climbed-preserved : goal.loop-climbed-preserved
loop-climbed-preserved c =
    climb_on c.args.powers.now c.args.w c.loop-climbed._climbed c.in-Some.v c.loop-climbed.at c.parent_of_power-at.result _
    c.loop-climbed-test.true
    c.in-Some.is
    c.if-v-w.false
    c.parent_of_power-at.ensures
    c.loop-climbed.invariant
