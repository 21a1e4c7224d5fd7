-- The messages that masters beyond a border may send without naming anything within.
use Rattle.std.specs.Prelude.{Bool, true, false, ◌&&◌, List, [], ◌∷◌}
use Rattle.pm_base.specs.declared.events.Event.{Event}
use Rattle.pm_base.specs.declared.events.Event.TheVariants.{Ipi}
use Rattle.pm_base.specs.declared.names.Unit.{Unit}
use Rattle.pm_base.specs.declared.names.Unit.TheVariants.{Node, Line}
use Rattle.pm_ipi.specs.declared.calls.Call.{Call}
use Rattle.pm_ipi.specs.Calls.{call_of, row_of}
use Rattle.pm_object.specs.declared.object.Object.{Object}
use Rattle.pm_core.specs.declared.replies.Answer.{Answer}
use Rattle.pm_core.specs.declared.replies.Answer.TheVariants.{Drop}
use Rattle.pm_topology.specs.declared.topology.Topology.{Topology}
use Rattle.pm_topology.specs.Places.{line_place}
use Rattle.pm_laws.specs.Border.{Border, line_beyond, none_within}
use Rattle.pm_laws.specs.ReachBorder.{configured_place}

-- the message was dropped
abbrev pub is_dropped : Answer → Bool
is_dropped (Drop master) = true
is_dropped _ = false

-- a node that a call names is beyond, or the reset line whose value it asks for
abbrev pub named_beyond : Topology → Border → Unit → Bool
named_beyond t border (Node node) = border.node node.0
named_beyond t border (Line line) = line_beyond border (line_place t.lines line.0)

-- each of these nodes is beyond
abbrev pub all_beyond : Topology → Border → List Unit → Bool
all_beyond t border [] = true
all_beyond t border (unit ∷ []) = named_beyond t border unit
all_beyond t border (unit ∷ next ∷ units) = named_beyond t border unit && all_beyond t border (next ∷ units)

-- all that a call names is beyond
abbrev pub names_beyond : Topology → Border → Call → Bool
names_beyond t border call = all_beyond t border (row_of call).names

-- the sender of a message is beyond, or is no configured master; no other event has one
abbrev pub sender_beyond : Object → Border → Event → Bool
sender_beyond object border (Ipi master message) = none_within border (configured_place object master)
sender_beyond object border _ = true

-- the sender is beyond or isn't configured, and each node that its call names is beyond
abbrev pub message_beyond : Object → Topology → Border → Event → Bool
message_beyond object t border (Ipi master message) =
    none_within border (configured_place object master) && names_beyond t border (call_of message)
message_beyond object t border _ = true
