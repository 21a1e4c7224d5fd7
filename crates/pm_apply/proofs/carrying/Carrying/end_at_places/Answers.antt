use Rattle.std.proofs.Common.{slice_get, sym, ap, ◌∙◌}
use Rattle.pm_apply.proofs.carrying.Carrying.end_at_places.Goals as goal

pub mark-requires-clause-known : goal.mark-requires-clause-known
mark-requires-clause-known c = λ place unit here. ap (λ units. slice_get units place) (sym c.requires.units) ∙ here
