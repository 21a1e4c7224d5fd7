use Rattle.std.proofs.Common.{sym, subst}
use Rattle.pm_apply.specs.declared.turns.Turn.{Turn}
use Rattle.pm_apply.specs.Left.{Begins, turns_left}
use Rattle.pm_apply.proofs.LeftLemmas.{first_pulsed, first_unpulsed}
use Rattle.pm_apply.proofs.carrying.Carrying.first.Goals as goal

pub returns-then-self-clause-some : goal.returns-then-self-clause-some
returns-then-self-clause-some c =
    first_pulsed c.args.book.now.fixed.topology c.args.pulse c.args.self.now c.turn_at-turn.result c.if-self.true c.turn_at-turn.ensures

pub returns-clause-some : goal.returns-clause-some
returns-clause-some c =
    let P : Turn → Type 0 = λ turn. Begins turn (turns_left c.args.book.now.fixed.topology c.args.pulse c.args.self.now) in
    subst P (sym c.unwrap_or.ensures)
    (first_unpulsed c.args.book.now.fixed.topology c.args.pulse c.args.self.now c.turn_at-turn.result c.pulse_before-pulse.result c.if-self.false c.turn_at-turn.ensures c.pulse_before-pulse.ensures)
