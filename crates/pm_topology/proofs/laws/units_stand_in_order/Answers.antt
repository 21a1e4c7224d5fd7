use Rattle.pm_topology.proofs.UnitsLaw.{units_of-are, units_of-has, units_of-few, same_is, same-refl}
use Rattle.pm_topology.proofs.laws.units_stand_in_order.Goals as goal

pub returns : goal.returns
returns c = record { are = units_of-are; found = units_of-has; few = units_of-few; same = same_is; itself = same-refl }
