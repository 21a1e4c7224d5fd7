-- The words that compare the steps of two runs.
use Rattle.pm_base.specs.declared.events.Event.{Event}
use Rattle.pm_base.specs.declared.names.NodeId.{NodeId}
use Rattle.pm_core.specs.declared.outbox.Outbox.{Outbox}
use Rattle.pm_core.specs.Outbox.{outputs_in}
use Rattle.pm_state.specs.State.{State}
use Rattle.pm_run.specs.Run.{Core}
use Rattle.pm_laws.specs.Border.{Border}
use Rattle.pm_laws.specs.ReachBorder.{border_of}

-- the border of the reach of a master by the objects of the run and the chip of a book
abbrev pub border_in : State → NodeId → Border
border_in book m = border_of book.fixed m

-- the core step of this event between these books, whose outputs this outbox holds
abbrev pub stepped : Event → State → State → Outbox → Core
stepped event before after out = record { event = event; before = before; after = after; outputs = outputs_in out }
