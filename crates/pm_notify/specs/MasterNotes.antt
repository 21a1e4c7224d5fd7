-- What one master has asked for and what waits for it, about each unit of a chip.
use Rattle.std.specs.Prelude.{ℕ, Bool, ◌++◌, ◌∷◌, [], List, map, slice_get, unwrap_or, Option}
use Rattle.std.specs.Option.{option_and_then}
use Rattle.pm_base.specs.declared.names.NodeId.{NodeId}
use Rattle.pm_base.specs.declared.names.Unit.{Unit}
use Rattle.pm_base.specs.declared.names.Unit.TheVariants.{Node, Line}
use Rattle.pm_topology.specs.UnitMap.{mapped, value_of, with_value}
use Rattle.pm_notify.specs.declared.notes.NodeEvent.{NodeEvent}
use Rattle.pm_notify.specs.declared.notes.Note.{Note}
use Rattle.pm_notify.specs.declared.notes.Waiting.{Waiting}
use Rattle.pm_notify.specs.declared.node_notes.Slots.{Slots}
use Rattle.pm_notify.specs.declared.node_notes.NodeNotes.{NodeNotes}
use Rattle.pm_notify.specs.NodeNotes.{asks, emptied, filled, no_notes, notes_in, unasked, with_asked}

-- the notes of a master: what it has asked for and what waits for it about each unit, in the order of units
abbrev pub MasterNotes : Type 0
MasterNotes = List (Unit × NodeNotes)

-- what was asked for and what waits about a node: nothing where it isn't there
abbrev pub notes_at : NodeId → MasterNotes → NodeNotes
notes_at n notes = unwrap_or (value_of notes (Node n)) no_notes

-- a master's notes with this about a node; where the node isn't there nothing changes
abbrev pub with_notes : NodeId → NodeNotes → MasterNotes → MasterNotes
with_notes n of_node notes = with_value (Node n) of_node notes

-- ---- notifiers

-- whether an event of a node is asked for
abbrev pub asks_about : NodeId → NodeEvent → MasterNotes → Bool
asks_about n event notes = asks event (notes_at n notes).notifiers

-- the notifier for an event of a node is on or off
abbrev pub with_notifier : NodeId → NodeEvent → Bool → MasterNotes → MasterNotes
with_notifier n event on notes =
    let of_node = notes_at n notes in
    with_notes n (record of_node { notifiers = with_asked event on of_node.notifiers }) notes

-- ---- waiting notes

-- a note about a node waits in the slot of its kind
abbrev pub with_note : NodeId → Note → MasterNotes → MasterNotes
with_note n note notes =
    let of_node = notes_at n notes in
    with_notes n (record of_node { slots = filled note of_node.slots }) notes

-- the slot for notes of this kind about a node is empty
abbrev pub without_note : NodeId → Note → MasterNotes → MasterNotes
without_note n note notes =
    let of_node = notes_at n notes in
    with_notes n (record of_node { slots = emptied note of_node.slots }) notes

-- what waits about a unit, by its kind; nothing waits about a reset line
abbrev pub waiting_about : Unit → Slots → List Waiting
waiting_about (Node n) slots = map (λ note. record { node = n; note = note }) (notes_in slots)
waiting_about (Line l) slots = []

-- all that waits: by the number of the node, and then by its kind
abbrev pub waiting_in : MasterNotes → List Waiting
waiting_in [] = []
waiting_in (e ∷ notes) = waiting_about e.0 e.1.slots ++ waiting_in notes

-- the first note that waits about the unit at a place
abbrev pub first_waiting_at : MasterNotes → ℕ → Option Waiting
first_waiting_at notes place = option_and_then (λ e. slice_get (waiting_about e.0 e.1.slots) 0) (slice_get notes place)

-- ---- a master that is off

-- nothing is asked for about a unit any more, and nothing waits
abbrev pub nothing_more : Unit → NodeNotes → NodeNotes
nothing_more unit of_node = no_notes

abbrev pub forgotten : MasterNotes → MasterNotes
forgotten notes = mapped nothing_more notes

-- ---- notifiers that are dropped

-- nothing is asked for about a unit any more, and what waits stays
abbrev pub only_waiting : Unit → NodeNotes → NodeNotes
only_waiting unit of_node = unasked of_node

abbrev pub without_notifiers : MasterNotes → MasterNotes
without_notifiers notes = mapped only_waiting notes
