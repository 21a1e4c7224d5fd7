use Rattle.pm_state.proofs.BelowLaw.{proc_is_below}
use Rattle.pm_state.proofs.below.is_proc_below.Goals as goal

pub returns : goal.returns
returns c = λ proc found.
    proc_is_below c.kinds_are_exact.ensures c.args.t.now c.requires.well_formed c.args.w c.args.p c.get.result.now proc
    c.is_at_or_below.result c.get.ensures c.is_at_or_below.ensures found
