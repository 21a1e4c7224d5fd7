-- The boxes of the masters: which messages they hold, and in which order these are served (UG1137, message buffers of
-- the interface between processors).
use Rattle.std.specs.Prelude.{ℕ, ◌-◌, ◌^◌, ◌==◌, List, [], ◌∷◌, flat_map, Option, Some, None, position, slice_get}
use Rattle.std.specs.List.{range_with_len}
use Rattle.pm_base.specs.declared.events.Event.{Event}
use Rattle.pm_base.specs.declared.events.Event.TheVariants.{Ipi}
use Rattle.pm_base.specs.declared.events.Message.{Message}
use Rattle.pm_base.specs.declared.names.NodeId.{NodeId}
use Rattle.pm_ipi.specs.Mail.{box_at}
use Rattle.pm_object.specs.declared.object.MasterRec.{MasterRec}
use Rattle.pm_object.specs.declared.object.Object.{Object}

-- the boxes of the masters, by their places
abbrev pub Boxes : Type 0
Boxes = List (Option Message)

-- the place of a configured master
abbrev pub box_of : Object → NodeId → Option ℕ
box_of object master = position (λ (r : MasterRec). r.node == master.0) object.masters

-- the place of the master whose mask is this bit
abbrev pub with_bit : Object → ℕ → Option ℕ
with_bit object bit = position (λ (r : MasterRec). r.mask == 2 ^ bit) object.masters

-- the message of a master, if there is one, as if it were sent now
abbrev pub sent_by : Option MasterRec → Option Message → List Event
sent_by (Some master) (Some message) = Ipi (record { 0 = master.node }) message ∷ []
sent_by (Some master) None = []
sent_by None message = []

-- the message in the box of the master at a place
abbrev pub sent_from : Object → Boxes → Option ℕ → List Event
sent_from object boxes None = []
sent_from object boxes (Some m) = sent_by (slice_get object.masters m) (box_at m boxes)

-- the messages in the boxes of the masters whose bit is this one or a later one, by rising mask
abbrev pub waiting_from : Object → Boxes → ℕ → List Event
waiting_from object boxes bit =
    flat_map (λ k. sent_from object boxes (with_bit object k)) (range_with_len bit (32 - bit))

-- the messages in all boxes
abbrev pub waiting_in : Object → Boxes → List Event
waiting_in object boxes = waiting_from object boxes 0
