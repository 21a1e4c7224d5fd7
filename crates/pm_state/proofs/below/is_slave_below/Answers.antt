use Rattle.pm_state.proofs.BelowLaw.{slave_is_below}
use Rattle.pm_state.proofs.below.is_slave_below.Goals as goal

pub returns : goal.returns
returns c = λ slave found.
    slave_is_below c.kinds_are_exact.ensures c.args.t.now c.requires.well_formed c.args.w c.args.s c.get.result.now slave
    c.is_at_or_below.result c.get.ensures c.is_at_or_below.ensures found
