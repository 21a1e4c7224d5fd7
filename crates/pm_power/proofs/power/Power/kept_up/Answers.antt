use Rattle.std.proofs.Common.{◌∙◌, ap, unwrap_or, slice_get, false}
use Rattle.pm_power.proofs.Settled.{kept_is_up, forest_after}
use Rattle.pm_power.proofs.power.Power.kept_up.Goals as goal

pub returns-clause-up : goal.returns-clause-up
returns-clause-up c =
    kept_is_up c.args.self.now c.self.inside.children.items c.self.inside.powers c.self.inside.counts c.self.inside.ups.items c.args.w c.at_or.result
    c.self.view_is c.self.invariant (c.at_or.ensures ∙ ap (λ us. unwrap_or (slice_get us c.args.w) false) c.deref.ensures.value)

pub returns-clause-after : goal.returns-clause-after
returns-clause-after c =
    forest_after c.args.self.now c.self.inside.children.items c.self.inside.powers c.self.inside.counts c.self.inside.ups.items
    c.self.view_is c.self.invariant
