use Rattle.pm_laws.proofs.ObjectsLaw.{among_formed}
use Rattle.pm_laws.proofs.worlds.loaded_objects_are_objects.Goals as goal

pub returns-clause-load : goal.returns-clause-load
returns-clause-load c = λ object attached topology formed each. (formed, among_formed object attached each)

pub returns-clause-step : goal.returns-clause-step
returns-clause-step c = λ event book objects. objects
