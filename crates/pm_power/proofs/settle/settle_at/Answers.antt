use Rattle.std.proofs.Common.{◌∙◌, sym, ap, nat_lt, ◌||◌}
use Rattle.pm_power.proofs.Settled.{few_above, goes_up}
use Rattle.pm_power.proofs.settle.settle_at.Goals as goal

pub turn_up-requires-clause-few : goal.turn_up-requires-clause-few
turn_up-requires-clause-few g c =
    few_above _ c.args.w c.args.powers.now c.args.counts.now c.args.ups.now c.power_at-power.result c.requires.later c.requires.after
    c.power_at-power.ensures c.requires.few

pub returns-then-is_up : goal.returns-then-is_up
returns-then-is_up g c =
    goes_up c.args.w c.args.powers.now c.args.counts.now c.args.ups.now c.power_at-power.result c.turn_up.new.ups c.turn_up.new.counts
    c.requires.after c.requires.later c.power_at-power.ensures
    (sym c.if-is_up.true ∙ c.is_up.ensures ∙ ap (λ n. c.power_at-power.result.held || nat_lt 0 n) c.value.ensures)
    c.turn_up.ensures.ups c.turn_up.ensures.counts
