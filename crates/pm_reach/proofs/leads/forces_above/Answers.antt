use Rattle.std.proofs.Common.{sym, ◌∙◌}
use Rattle.pm_reach.specs.Leads.{forces_at}
use Rattle.pm_reach.proofs.Walk.{passes_here, fails_here}
use Rattle.pm_reach.proofs.leads.forces_above.Goals as goal

pub returns-then-forces_at : goal.returns-then-forces_at
returns-then-forces_at c =
    let here = passes_here
    (λ w power. forces_at c.args.objects.now c.args.t.now c.args.master c.args.node w power)
    c.as_slice-power-items.result.now c.args.t.now.powers c.loop-w.w _
    c.as_slice-power-items.ensures c.loop-w-test.true (sym c.if-forces_at.ensures) in
    sym (sym c.loop-w.invariant ∙ here)

pub loop-w-preserved : goal.loop-w-preserved
loop-w-preserved c =
    let later = fails_here
    (λ w power. forces_at c.args.objects.now c.args.t.now c.args.master c.args.node w power)
    c.as_slice-power-items.result.now c.args.t.now.powers c.loop-w.w _
    c.as_slice-power-items.ensures c.loop-w-test.true (sym c.if-forces_at.ensures) in
    sym later ∙ c.loop-w.invariant
