use Rattle.std.proofs.Common.{◌∙◌, sym}
use Rattle.test_two_runs.proofs.SidesLaw.{same_place}
use Rattle.test_two_runs.proofs.sides.owns.Goals as goal

pub returns : goal.returns
returns c = λ is.
    sym c.owner_of.ensures
    ∙ (same_place c.owner_of.result c.configured_place.result (sym c.eq.ensures ∙ is) ∙ c.configured_place.ensures)
