use Rattle.std.proofs.Common.{◌≡◌, false, Option, None, Some, refl, sym, ◌∙◌, arith}
use Rattle.std.specs.Prelude.{is_some}
use Rattle.pm_base.specs.declared.names.Command.{Command}
use Rattle.pm_state.specs.Values.{value}
use Rattle.pm_apply.specs.Left.{turns_left}
use Rattle.pm_apply.proofs.LeftLemmas.{Begins-fewer, Passes-fewer, Passes-on}
use Rattle.pm_apply.proofs.carrying.Carrying.next_command.Goals as goal

pub turns-smaller : goal.turns-smaller
turns-smaller c =
    let t = c.args.book.now.fixed.topology in
    let first = c.in-Some.ensures.some in
    let one = Begins-fewer c.in-Some.turn (turns_left t c.args.pulse c.turns.self) (turns_left t c.args.pulse c.pass.new.self) first (c.pass.ensures c.in-Some.turn first) in
    let two = Passes-fewer t c.args.pulse (λ u. value u c.args.book.now) c.args.kept.now c.pass.new.self c.skip-in-Some.new.self c.skip-in-Some.ensures in
    omega (arith, one, two)

pub turns-preserved : goal.turns-preserved
turns-preserved c =
    let first = c.in-Some.ensures.some in
    Passes-on c.args.book.now.fixed.topology c.args.pulse (λ u. value u c.args.book.now) c.args.kept.now c.args.self.now c.turns.self c.pass.new.self c.skip-in-Some.new.self c.in-Some.turn first
    c.turns.invariant (sym c.due-command.ensures ∙ is_none c.due-command.result (sym c.is_some.ensures ∙ c.if-is_some.false)) (c.pass.ensures c.in-Some.turn first) c.skip-in-Some.ensures
  where
    is_none : (found : Option Command) → is_some found ≡ false → found ≡ None
    is_none None untrue = refl
    is_none (Some command) untrue = cc
