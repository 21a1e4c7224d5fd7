use Rattle.std.proofs.Common.{ℕ, sym, ◌∙◌, ap, subst}
use Rattle.pm_state.specs.Sound.{StandsAsWanted}
use Rattle.pm_state.specs.State.{State}
use Rattle.pm_state.specs.Values.{value}
use Rattle.pm_core.proofs.book.Book.value.Goals as goal

pub returns-clause-meets : goal.returns-clause-meets
returns-clause-meets c =
    let InBook : State → Type 0 = λ b. StandsAsWanted c.args.unit (value c.args.unit b) b in
    let OfValue : ℕ → Type 0 = λ k. StandsAsWanted c.args.unit k c.args.self.now in
    subst OfValue (sym (c.value.ensures ∙ ap (value c.args.unit) c.self.view_is))
    (subst InBook c.self.view_is (c.values_meet.ensures.stands c.args.unit c.self.inside.tables c.self.invariant.0.formed c.self.invariant.0.sound))
