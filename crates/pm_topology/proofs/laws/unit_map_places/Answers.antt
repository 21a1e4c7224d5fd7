use Rattle.pm_topology.proofs.UnitMapLaw.{entry-with_at, units_in-with_at, set_at_place, next_entry, next_made}
use Rattle.pm_topology.proofs.laws.unit_map_places.Goals as goal

pub returns : goal.returns
returns g c = record {
  set = entry-with_at;
  set_units = units_in-with_at;
  by_unit = set_at_place;
  next = next_entry;
  made = next_made;
}
