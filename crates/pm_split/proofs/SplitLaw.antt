-- Each line has a core event.
use Rattle.std.proofs.Common.{ℕ, ◌<◌, if◌then◌else◌, is_some, List, [], ◌∷◌, length, Option, Some, None, arith}
use Rattle.pm_base.specs.declared.events.Event.{Event}
use Rattle.pm_base.specs.declared.events.Event.TheVariants.{Post, Serve, Smc}
use Rattle.pm_base.specs.declared.events.Message.{Message}
use Rattle.pm_base.specs.declared.names.NodeId.{NodeId}
use Rattle.pm_object.specs.declared.object.Object.{Object}
use Rattle.pm_split.specs.Boxes.{Boxes, box_of, waiting_in}
use Rattle.pm_topology.specs.declared.topology.Topology.{Topology}
use Rattle.pm_psci.specs.Calls.{function_of}
use Rattle.pm_psci.specs.Lowering.{or_pass, sent}
use Rattle.pm_psci.specs.Refusal.{refusal}
use Rattle.pm_split.specs.Split.{call, post, split_of}

pub passed : (events : List Event) → 0 < length (or_pass events)
passed [] = omega arith
passed (event ∷ events) = omega arith

posted : (place : Option ℕ) (master : NodeId) (message : Message) (boxes : Boxes) → 0 < length (post place master message boxes).events
posted None master message boxes = omega arith
posted (Some m) master message boxes = omega arith

pub some_event : (object : Object) (t : Topology) (event : Event) (boxes : Boxes) → 0 < length (split_of object t event boxes).events
some_event object t (Post master message) boxes = posted (box_of object master) master message boxes
some_event object t Serve boxes = passed (waiting_in object boxes)
some_event object t (Smc proc function args) boxes =
    let smc = call proc function args in
    passed (if is_some (refusal t smc) then [] else sent t smc (function_of smc))
some_event object t event boxes = omega arith
