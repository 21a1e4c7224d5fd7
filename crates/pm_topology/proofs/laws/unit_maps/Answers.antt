use Rattle.pm_topology.proofs.UnitMapLaw.{value_of-there, value_of-all, value_of-written, value_of-mapped, units_in-all, units_in-with, units_in-mapped}
use Rattle.pm_topology.proofs.laws.unit_maps.Goals as goal

pub returns : goal.returns
returns g c = record {
  there = value_of-there;
  all = value_of-all;
  set = value_of-written;
  made = value_of-mapped;
  all_units = units_in-all;
  set_units = units_in-with;
  made_units = units_in-mapped;
}
