-- The table of the small chip keeps the rules.
use Rattle.std.proofs.Common.{refl}
use Rattle.pm_topology.specs.WellFormed.{IsWellFormed}
use Rattle.pm_topology.proofs.WellFormedLaw.{well_formed_from}
use Rattle.test_books.specs.SmallTable.{small}

pub small_sound : IsWellFormed small
unfolding small
small_sound = well_formed_from small refl
