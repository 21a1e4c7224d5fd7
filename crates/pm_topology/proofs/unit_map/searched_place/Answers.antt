-- The hash table has the unit at its place.
use Rattle.std.proofs.Common.{◌∙◌}
use Rattle.pm_topology.proofs.UnitMapLaw.{place_of-is}
use Rattle.pm_topology.proofs.unit_map.searched_place.Goals as goal

pub returns : goal.returns
returns g c = c.get_index_of.ensures.index ∙ place_of-is c.args.unit c.args.entries.now.entries
