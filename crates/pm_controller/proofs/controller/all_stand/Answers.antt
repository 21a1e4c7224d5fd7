use Rattle.std.proofs.Common.{sym, ◌∙◌}
use Rattle.pm_state.specs.Units.{units}
use Rattle.pm_controller.specs.Controls.{stands_at}
use Rattle.pm_controller.proofs.ComingLemmas.{all_fails, all_next}
use Rattle.pm_controller.proofs.controller.all_stand.Goals as goal

pub returns-then-not-stands : goal.returns-then-not-stands
returns-then-not-stands c =
    all_fails (stands_at c.args.book.now c.args.kept.now) (units c.args.book.now) c.loop-k.k c.unit.result c.loop-k.invariant c.unit.ensures (sym c.stands.ensures ∙ c.if-not-stands.true)

pub loop-k-preserved : goal.loop-k-preserved
loop-k-preserved c =
    all_next (stands_at c.args.book.now c.args.kept.now) (units c.args.book.now) c.loop-k.k c.unit.result c.loop-k.invariant c.unit.ensures (sym c.stands.ensures ∙ c.if-not-stands.false)
