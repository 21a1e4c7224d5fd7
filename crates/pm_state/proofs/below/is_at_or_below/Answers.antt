use Rattle.pm_base.proofs.Booleans.{equal}
use Rattle.pm_state.proofs.BelowLaw.{another, itself}
use Rattle.pm_state.proofs.below.is_at_or_below.Goals as goal

pub returns-then-v-w : goal.returns-then-v-w
returns-then-v-w c =
    itself c.kinds_are_exact.ensures c.args.t.now c.requires.well_formed c.args.w c.args.v _ c.if-v-w.true
    (equal c.args.v c.args.w c.if-v-w.true)

pub returns-else-v-w : goal.returns-else-v-w
returns-else-v-w c =
    another c.kinds_are_exact.ensures c.args.t.now c.requires.well_formed c.args.w c.args.v c.get.result.now c.below.result c.get.ensures
    c.if-v-w.false (c.below.ensures.at_any_height c.requires.well_formed)
