use Rattle.pm_state.proofs.ObjectsLaw.{found_is}
use Rattle.pm_state.proofs.laws.found_objects_are_attached.Goals as goal

pub returns : goal.returns
returns c address k fixed is = found_is address fixed k is
