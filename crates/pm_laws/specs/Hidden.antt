-- The events that are hidden from beyond a border. The border, the object and the event decide it; rows and modes
-- don't.
use Rattle.std.specs.Prelude.{ℕ, Bool, true, false, not, ◌||◌, Option, Some, None, option_and_then}
use Rattle.pm_base.specs.declared.events.Event.{Event}
use Rattle.pm_base.specs.declared.events.Event.TheVariants.{Ipi, Boot, Wfi, Irq, Gic, Tick}
use Rattle.pm_ipi.specs.declared.calls.Call.{Call}
use Rattle.pm_ipi.specs.Calls.{call_of}
use Rattle.pm_topology.specs.declared.places.Kind.{Kind}
use Rattle.pm_topology.specs.Places.{kind_of, proc_of}
use Rattle.pm_state.specs.Members.{owner_at}
use Rattle.pm_state.specs.State.{State}
use Rattle.pm_state.specs.Values.{master_place, slave_place}
use Rattle.pm_state.specs.Nodes.{named_master}
use Rattle.pm_laws.specs.Border.{Border}
use Rattle.pm_calls.specs.calls.{shape_of}
use Rattle.pm_calls.specs.Shapes.{Shape, Own_row, Other_wakeup, Other_suspend}

-- the master at this place is within reach, or there is none
abbrev pub is_within : Border → Option ℕ → Bool
is_within border None = true
is_within border (Some m) = not (border.master m)

-- the slave at this place is within reach
abbrev pub is_slave_within : Border → Option ℕ → Bool
is_slave_within border None = false
is_slave_within border (Some s) = not (border.slave s)

-- the place of the configured master that has the processor of this kind
abbrev pub owner_by : Kind → State → Option ℕ
owner_by kind book = option_and_then (owner_at book.fixed.object book.fixed.topology) (proc_of kind)

-- a call of this shape changes a row on a slave within, wakes a processor whose owner is within or that has none, or
-- asks a master within, or none, to suspend
abbrev pub shape_within : Border → Shape → State → Bool
shape_within border (Own_row node by call) book = is_slave_within border (slave_place node book)
shape_within border (Other_wakeup node address ack) book =
    is_within border (owner_by (kind_of book.fixed.topology node) book)
shape_within border (Other_suspend node ack latency state) book = is_within border (named_master book.fixed node)
shape_within border _ book = false

abbrev pub changes_within : Border → Call → State → Bool
changes_within border call book = shape_within border (shape_of call) book

-- an event is hidden if its caller is within or isn't configured; if it changes something within; or if the owner of
-- its processor is within, or it has none. The interrupt of a slave, and a tick, are hidden if no master is beyond
abbrev pub is_hidden : Border → Event → State → Bool
is_hidden border (Ipi master message) book =
    is_within border (master_place master book) || changes_within border (call_of message) book
is_hidden border (Boot proc address) book = is_within border (owner_by (kind_of book.fixed.topology proc) book)
is_hidden border (Wfi proc) book = is_within border (owner_by (kind_of book.fixed.topology proc) book)
is_hidden border (Gic proc) book = is_within border (owner_by (kind_of book.fixed.topology proc) book)
is_hidden border (Irq slave) book = not border.some
is_hidden border (Tick count) book = not border.some
is_hidden border _ book = true
