use Rattle.std.proofs.Common.{sym, ◌∙◌}
use Rattle.pm_apply.proofs.LeftLemmas.{behind_pulse, behind_pulsed, behind_unpulsed}
use Rattle.pm_apply.proofs.carrying.Carrying.pass.Goals.{else-not-self-via-then-not-self+else-is_some, else-not-self-via-else-not-self}
use Rattle.pm_apply.proofs.carrying.Carrying.pass.Goals as goal

pub returns-then-is_some : goal.returns-then-is_some
returns-then-is_some c =
    behind_pulse c.args.book.now.fixed.topology c.args.pulse c.args.self.now c.turn_at-turn.result c.pulse_before.result (sym c.is_some.ensures ∙ c.if-is_some.true) c.if-not-self.true c.turn_at-turn.ensures c.pulse_before.ensures

pub returns-else-not-self : goal.returns-else-not-self
returns-else-not-self c =
    let t = c.args.book.now.fixed.topology in
    elim c.else-not-self.branch [
      | else-not-self-via-then-not-self+else-is_some w ↦
          behind_unpulsed t c.args.pulse c.args.self.now c.turn_at-turn.result w.pulse_before.result (sym w.is_some.ensures ∙ w.if-is_some.false) w.if-not-self.true c.turn_at-turn.ensures w.pulse_before.ensures
      | else-not-self-via-else-not-self w ↦
          behind_pulsed t c.args.pulse c.args.self.now c.turn_at-turn.result w.if-not-self.false c.turn_at-turn.ensures
    ]
