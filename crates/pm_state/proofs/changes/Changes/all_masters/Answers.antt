use Rattle.std.proofs.Common.{◌≡◌, ◌<◌, ap, ◌∙◌, arith}
use Rattle.pm_base.specs.declared.names.Mode.{Mode}
use Rattle.pm_state.specs.Changes.{with_master}
use Rattle.pm_state.proofs.ChangesLemmas.{masters_step}
use Rattle.pm_state.proofs.changes.Changes.all_masters.Goals as goal

pub loop-m-preserved : goal.loop-m-preserved
loop-m-preserved c =
    masters_step c.len-m-end.result c.loop-m.m c.args.rows.now c.loop-m.self c.master.new.self c.loop-m-test.true
    (c.master.ensures ∙ ap (λ (mode : Mode). with_master c.loop-m.m mode c.loop-m.self) c.mode.ensures) ∙ c.loop-m.invariant
