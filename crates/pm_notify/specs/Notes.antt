-- What a master is told about a node, and what it can ask to be told.
use Rattle.std.specs.Prelude.{ℕ, Bool, ◌==◌, ◌&&◌, ◌||◌, nat_lt, if◌then◌else◌, Option, Some, None}
use Rattle.pm_notify.specs.declared.notes.NodeEvent.{NodeEvent}
use Rattle.pm_notify.specs.declared.notes.NodeEvent.TheVariants.{Change, ZeroUsers}
use Rattle.pm_notify.specs.declared.notes.Note.{Note}
use Rattle.pm_notify.specs.declared.notes.Note.TheVariants as note
use Rattle.pm_notify.specs.declared.notes.Waiting.{Waiting}

-- the number of an event of a node (UG1200, PM_REGISTER_NOTIFIER)
abbrev pub event_number : NodeEvent → ℕ
event_number Change = 1
event_number ZeroUsers = 2

-- the event of a number, where there is one
abbrev pub event_of : ℕ → Option NodeEvent
event_of number = if number == 1 then Some Change else (if number == 2 then Some ZeroUsers else None)

-- the note that an event came
abbrev pub note_of : NodeEvent → Note
note_of Change = note.Change
note_of ZeroUsers = note.ZeroUsers

abbrev pub same_event : NodeEvent → NodeEvent → Bool
same_event a b = event_number a == event_number b

-- the kinds of notes in their order: acknowledgements, changes, no users any more
abbrev pub kind_number : Note → ℕ
kind_number (note.Ack status) = 0
kind_number note.Change = 1
kind_number note.ZeroUsers = 2

-- two notes of one kind about one node take the same slot
abbrev pub same_kind : Note → Note → Bool
same_kind a b = kind_number a == kind_number b

-- notes are told by the number of their node, and those about one node by their kind
abbrev pub is_told_before : Waiting → Waiting → Bool
is_told_before a b =
    nat_lt a.node.0 b.node.0 || ((a.node.0 == b.node.0) && nat_lt (kind_number a.note) (kind_number b.note))
