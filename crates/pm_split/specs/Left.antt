-- The core events of a script line that are still to come.
use Rattle.std.specs.Prelude.{Bool, true, false, drop, List, [], ◌∷◌, length}
use Rattle.pm_base.specs.declared.events.Event.{Event}
use Rattle.pm_base.specs.declared.events.Event.TheVariants as events
use Rattle.pm_base.specs.declared.events.Event.TheVariants.{Ipi}
use Rattle.pm_ipi.specs.Mail.{all_empty}
use Rattle.pm_object.specs.declared.object.Object.{Object}
use Rattle.pm_topology.specs.declared.topology.Topology.{Topology}
use Rattle.pm_psci.specs.Lowering.{lowered, or_pass}
use Rattle.pm_split.specs.declared.cores.CoreEvents.{CoreEvents}
use Rattle.pm_split.specs.declared.cores.CoreEvents.TheVariants.{Past, Own, Pass, Sent, Lowered, Served}
use Rattle.pm_split.specs.declared.cores.Source.{Source}
use Rattle.pm_split.specs.declared.cores.Source.TheVariants as source
use Rattle.pm_split.specs.Boxes.{Boxes, waiting_from}

-- the core event that is found there, where this one was made
abbrev pub core_event : Source → Event → Event
core_event (source.Own event) made = event.now
core_event source.Made made = made

-- a line that serves has a Pass if it served nothing
abbrev pub to_serve : Bool → List Event → List Event
to_serve true events = events
to_serve false events = or_pass events

-- those of a line, by what the boxes hold now
abbrev pub events_left : Object → Topology → Boxes → CoreEvents → List Event
events_left object t boxes Past = []
events_left object t boxes (Own event) = event.now ∷ []
events_left object t boxes Pass = events.Pass ∷ []
events_left object t boxes (Sent master message) = Ipi master message ∷ []
events_left object t boxes (Served bit some) = to_serve some (waiting_from object boxes bit)
events_left object t boxes (Lowered smc k) = drop k (lowered t smc)

-- the boxes once all of them were taken
abbrev pub boxes_left : Boxes → CoreEvents → Boxes
boxes_left boxes Past = boxes
boxes_left boxes (Own event) = boxes
boxes_left boxes Pass = boxes
boxes_left boxes (Sent master message) = boxes
boxes_left boxes (Served bit some) = all_empty (length boxes)
boxes_left boxes (Lowered smc k) = boxes
