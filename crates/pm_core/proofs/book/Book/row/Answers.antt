use Rattle.std.proofs.Common.{◌∙◌, ap, is_some, subst}
use Rattle.pm_state.specs.Sound.{IsSound}
use Rattle.pm_state.specs.State.{State}
use Rattle.pm_state.specs.Nodes.{row}
use Rattle.pm_core.proofs.book.Book.row.Goals as goal

pub returns-clause-permitted : goal.returns-clause-permitted
returns-clause-permitted c =
    let InBook : State → Type 0 = λ b. IsSound b in
    let sound : IsSound c.args.self.now = subst InBook c.self.view_is c.self.invariant.0.sound in
    let is = c.row.ensures ∙ ap (row c.args.master c.args.slave) c.self.view_is in
    ap is_some is ∙ c.books_stay_sound.ensures.permitted c.args.master c.args.slave c.args.self.now sound
