use Rattle.std.proofs.Common.{ap, sym, ◌∙◌}
use Rattle.pm_notify.specs.MasterNotes.{forgotten}
use Rattle.pm_notify.proofs.QuietLemmas.{blank_dropped}
use Rattle.pm_notify.proofs.master_notes.MasterNotes.forget.Goals as goal

-- where nothing was held, nothing is
pub invariant_of-self : goal.invariant_of-self
invariant_of-self c = (
  (λ quiet. cc),
  (λ blank. (let
      held = c.self.invariant.1 blank
      in let
      same = c.drop_notifiers_if.ensures ∙ blank_dropped c.self.inside.notes held
      in
      ap forgotten same ∙ (held ∙ sym same))),
)
