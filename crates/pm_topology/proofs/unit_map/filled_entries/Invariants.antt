use Rattle.std.proofs.Common.{◌≡◌, take}
use Rattle.pm_topology.specs.UnitMap.{all_at}
use Rattle.pm_topology.proofs.unit_map.filled_entries.Given as goal

-- the units so far stand in the table
abbrev pub invariant-loop-unit : goal.invariant-loop-unit
invariant-loop-unit g l = l.entries.entries ≡ all_at l.value (take l.unit-index l.units)
