use Rattle.std.proofs.Common.{◌≡◌, ap, sym, ◌∙◌}
use Rattle.pm_notify.specs.MasterNotes.{forgotten, waiting_in}
use Rattle.pm_notify.proofs.QuietLemmas.{blank_forgotten, none_forgotten}
use Rattle.pm_notify.proofs.master_notes.MasterNotes.clear.Goals as goal

pub invariant_of-self : goal.invariant_of-self
invariant_of-self c = (
  (λ quiet. ap waiting_in c.clear_if.ensures ∙ none_forgotten c.self.inside.notes),
  (λ blank. ap forgotten c.clear_if.ensures ∙ (blank_forgotten c.self.inside.notes ∙ sym c.clear_if.ensures)),
)
