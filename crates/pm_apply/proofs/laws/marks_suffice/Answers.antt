use Rattle.pm_apply.proofs.MovedLemmas.{suffices}
use Rattle.pm_apply.proofs.laws.marks_suffice.Goals as goal

pub returns : goal.returns
returns c = suffices c.units_stand_in_order.ensures
