-- The run without the messages of a master. Power calls become messages of master 1.
use Rattle.std.specs.Prelude.{◌==◌, if◌then◌else◌, List, map}
use Rattle.pm_base.specs.declared.events.Event.{Event}
use Rattle.pm_base.specs.declared.events.Event.TheVariants.{Ipi, Pass, Post, Smc}
use Rattle.pm_base.specs.declared.names.NodeId.{NodeId}

-- the quiet event: a Pass for a message of this master, one put into its box, or a power call that becomes one; else
-- the event
abbrev pub quiet_event : NodeId → Event → Event
quiet_event m (Ipi master message) = if master.0 == m.0 then Pass else Ipi master message
quiet_event m (Post master message) = if master.0 == m.0 then Pass else Post master message
quiet_event m (Smc proc function args) = if m.0 == 1 then Pass else Smc proc function args
quiet_event m event = event

-- the quiet events of a list
abbrev pub quiet : NodeId → List Event → List Event
quiet m events = map (quiet_event m) events
