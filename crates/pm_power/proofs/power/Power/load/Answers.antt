use Rattle.std.proofs.Common.{subst, arith, rules, List}
use Rattle.pm_topology.specs.declared.topology.PowerDef.{PowerDef}
use Rattle.pm_power.specs.Forest.{AreAfterParents}
use Rattle.pm_power.proofs.UpLaw.{after_parents}
use Rattle.pm_power.proofs.Settled.{load_forest, given_back}
use Rattle.pm_power.proofs.power.Power.load.Goals as goal

pub settle_uncounted-requires-clause-after : goal.settle_uncounted-requires-clause-after
settle_uncounted-requires-clause-after c =
    let P : List PowerDef → Type 0 = λ powers. AreAfterParents powers in
    subst P (search rules) (after_parents c.args.t.now c.requires)

pub invariant_of-result : goal.invariant_of-result
invariant_of-result c =
    load_forest c.args.t.now c.in_ok-children.children.items c.in_ok-powers.powers c.as_slice-2.result.now c.settle_uncounted.new.counts
    c.settle_uncounted.new.ups _ c.requires c.in_ok-children.ensures (search rules) (search rules) c.settle_uncounted.ensures
    (given_back c.in_ok-ups.ups.len c.in_ok-ups.ups.items c.settle_uncounted.new.ups
    (omega (arith, c.in_ok-ups.ups.ok)) (search rules))
