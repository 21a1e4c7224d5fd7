use Rattle.std.proofs.Common.{◌≡◌, ap, sym, ◌∙◌}
use Rattle.pm_topology.specs.UnitMap.{all_at}
use Rattle.pm_topology.specs.Units.{units_of}
use Rattle.pm_notify.specs.MasterNotes.{forgotten, waiting_in}
use Rattle.pm_notify.proofs.QuietLemmas.{blank_loaded, none_loaded}
use Rattle.pm_notify.proofs.master_notes.MasterNotes.load.Goals as goal

-- at load nothing waits, and nothing is held
pub invariant_of-result : goal.invariant_of-result
invariant_of-result c =
    let loaded = c.in_ok-notes.ensures.entries ∙ ap (λ none. all_at none (units_of c.args.t.now)) c.none.ensures in (
      (λ quiet. ap waiting_in loaded ∙ none_loaded (units_of c.args.t.now)),
      (λ blank. ap forgotten loaded ∙ (blank_loaded (units_of c.args.t.now) ∙ sym loaded)),
    )
