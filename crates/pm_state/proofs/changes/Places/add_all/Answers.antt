use Rattle.std.proofs.Common.{◌≡◌, ◌<◌, ap, ◌∙◌, arith}
use Rattle.pm_state.proofs.ChangesLemmas.{all_step}
use Rattle.pm_state.proofs.changes.Places.add_all.Goals as goal

pub loop-k-preserved : goal.loop-k-preserved
loop-k-preserved c =
    all_step c.len-k-end.result c.loop-k.k c.loop-k.self c.add.new.self c.loop-k-test.true c.add.ensures ∙ c.loop-k.invariant
