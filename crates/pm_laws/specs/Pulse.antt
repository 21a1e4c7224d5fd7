-- The visible part of the pulse of a reset line.
use Rattle.std.specs.Prelude.{Option, Some, None, if◌then◌else◌}
use Rattle.pm_base.specs.declared.names.LineId.{LineId}
use Rattle.pm_topology.specs.declared.topology.Topology.{Topology}
use Rattle.pm_topology.specs.Places.{line_place}
use Rattle.pm_laws.specs.Border.{Border, line_beyond}

-- the pulse, if its line is beyond
abbrev pub pulse_beyond : Topology → Border → Option LineId → Option LineId
pulse_beyond t border None = None
pulse_beyond t border (Some line) = if line_beyond border (line_place t.lines line.0) then Some line else None
