use Rattle.std.proofs.Common.{subst}
use Rattle.pm_state.specs.Fed.{IsFed}
use Rattle.pm_state.specs.Sound.{MeetsRequirements}
use Rattle.pm_state.specs.State.{State}
use Rattle.pm_state.specs.Values.{value}
use Rattle.pm_core.proofs.book.Book.stays_sound.Goals as goal

pub returns-clause-fed : goal.returns-clause-fed
returns-clause-fed c =
    let P : State → Type 0 = λ b. IsFed b.fixed.topology (λ u. value u b) in
    subst P c.self.view_is (c.values_meet.ensures.fed c.self.inside.tables c.self.invariant.0.formed)

pub returns-clause-met : goal.returns-clause-met
returns-clause-met c =
    let P : State → Type 0 = λ b. MeetsRequirements b (λ u. value u b) in
    subst P c.self.view_is (c.values_meet.ensures.met c.self.inside.tables c.self.invariant.0.formed c.self.invariant.0.sound)
