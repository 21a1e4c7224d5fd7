use Rattle.std.proofs.Common.{◌≡◌, Bool, true, false, sym, ◌∙◌, refl}
use Rattle.std.specs.Prelude.{Option, Some, None, is_some}
use Rattle.pm_notify.specs.declared.notes.Waiting.{Waiting}
use Rattle.pm_notify.specs.MasterNotes.{waiting_in}
use Rattle.pm_notify.proofs.QuietLemmas.{none_first}
use Rattle.pm_notify.proofs.master_notes.MasterNotes.first.Goals as goal

not_some : (found : Option Waiting) → is_some found ≡ false → found ≡ None
not_some None none = refl
not_some (Some waiting) none = cc

pub invariant_of-self : goal.invariant_of-self
invariant_of-self c = (
  (λ quiet.
      let none : is_some c.first_in-first.result ≡ false = sym c.is_some-self-inside.ensures ∙ quiet in
      none_first (waiting_in c.self.inside.notes) (sym c.first_in-first.ensures.first ∙ not_some c.first_in-first.result none)),
  c.self.invariant.1,
)
