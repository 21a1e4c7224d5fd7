-- The text of the differences between two runs: a line for each unit that differs, and the number of script lines.
use Rattle.std.specs.Prelude.{ℕ, ◌+◌, List, [], ◌∷◌, ◌++◌, codes, filter, length}
use Rattle.std.specs.List.{flat_map}
use Rattle.pm_base.specs.declared.events.Event.{Event}
use Rattle.pm_base.specs.declared.names.NodeId.{NodeId}
use Rattle.pm_base.specs.declared.names.Unit.{Unit}
use Rattle.pm_topology.specs.declared.topology.Topology.{Topology}
use Rattle.pm_topology.specs.Units.{units_of}
use Rattle.pm_reach.specs.declared.members.Member.{Member}
use Rattle.pm_run.specs.Run.{Setup, run}
use Rattle.pm_laws.specs.Quiet.{quiet}
use Rattle.pm_script.specs.Script.{Script}
use Rattle.pm_trace.specs.declared.line.Word.TheVariants as word
use Rattle.pm_trace.specs.Closing.{unit_name}
use Rattle.pm_trace.specs.Line.{line_text}
use Rattle.pm_trace.specs.Reach.{reach_text}
use Rattle.pm_trace.specs.Report.{Report}
use Rattle.pm_trace.specs.Scripts.{at_end, fault_at}
use Rattle.pm_isolate.specs.Transitions.{differs}

-- the units that differ between the run of these events and the run without the messages of a master: all nodes by number,
-- and then all reset lines by number
abbrev pub differing : Setup → NodeId → List Event → List Unit
differing c m events = filter (differs (run c events) (run c (quiet m events))) (units_of c.topology)

-- the line of a unit that differs: its sort and its number
abbrev pub difference_line : Topology → Unit → List ℕ
difference_line t unit = line_text (word.Name (codes "differ") ∷ unit_name t unit)

-- the line of the number of script lines
abbrev pub steps_line : ℕ → List ℕ
steps_line count = line_text (word.Name (codes "steps") ∷ word.Number count ∷ [])

-- a line for each unit that differs, and then the number of script lines: each line of a script gives one event
abbrev pub differences : Setup → NodeId → List Event → List ℕ
differences c m events = flat_map (difference_line c.topology) (differing c m events) ++ steps_line (length events)

-- the whole text: the reach of the master, and then the differences
abbrev pub isolate_text : Setup → NodeId → List Member → List Event → List ℕ
isolate_text c m members events = reach_text members ++ differences c m events

-- the report for the members of a reach and a script that can be opened: the differences come if the script came to
-- its end
abbrev pub isolate_report : Setup → NodeId → List Member → Script → Report
isolate_report c m members s = record {
  body = reach_text members ∷ at_end s.stop (differences c m s.events);
  fault = fault_at (1 + length s.events) s.stop;
}
