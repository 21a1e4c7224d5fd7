use Rattle.std.proofs.Common.{◌≡◌, length}
use Rattle.pm_topology.specs.UnitMap.{AreNodePlaces}
use Rattle.pm_topology.proofs.unit_map.node_places.Given as goal

-- the places of the nodes with the numbers so far
abbrev pub invariant-loop-number : goal.invariant-loop-number
invariant-loop-number g l = record {
  count : length l.places ≡ l.number;
  places : AreNodePlaces l.entries.entries l.places;
}
