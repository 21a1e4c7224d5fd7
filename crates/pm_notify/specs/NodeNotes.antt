-- What one master has asked for and what waits for it about one node.
use Rattle.std.specs.Prelude.{Bool, true, false, ◌++◌, if◌then◌else◌, List, Option, Some, None, option_to_list}
use Rattle.std.specs.Option.{option_map}
use Rattle.pm_notify.specs.declared.notes.NodeEvent.{NodeEvent}
use Rattle.pm_notify.specs.declared.notes.NodeEvent.TheVariants as event
use Rattle.pm_notify.specs.declared.notes.Note.{Note}
use Rattle.pm_notify.specs.declared.notes.Note.TheVariants.{Ack, Change, ZeroUsers}
use Rattle.pm_notify.specs.declared.node_notes.Notifiers.{Notifiers}
use Rattle.pm_notify.specs.declared.node_notes.Slots.{Slots}
use Rattle.pm_notify.specs.declared.node_notes.NodeNotes.{NodeNotes}

-- ---- notifiers

-- no event is asked for
abbrev pub no_notifiers : Notifiers
no_notifiers = record { change = false; zero_users = false }

-- whether an event is asked for
abbrev pub asks : NodeEvent → Notifiers → Bool
asks event.Change notifiers = notifiers.change
asks event.ZeroUsers notifiers = notifiers.zero_users

-- the notifiers with that of an event on or off
abbrev pub with_asked : NodeEvent → Bool → Notifiers → Notifiers
with_asked event.Change on notifiers = record notifiers { change = on }
with_asked event.ZeroUsers on notifiers = record notifiers { zero_users = on }

-- ---- slots: one for each kind of note

-- nothing waits
abbrev pub no_slots : Slots
no_slots = record { ack = None; change = false; zero_users = false }

-- the note in the slot for notes of this one's kind, if one waits there
abbrev pub note_like : Note → Slots → Option Note
note_like (Ack status) slots = option_map Ack slots.ack
note_like Change slots = if slots.change then Some Change else None
note_like ZeroUsers slots = if slots.zero_users then Some ZeroUsers else None

-- a note goes into the slot of its kind, in place of what was there
abbrev pub filled : Note → Slots → Slots
filled (Ack status) slots = record slots { ack = Some status }
filled Change slots = record slots { change = true }
filled ZeroUsers slots = record slots { zero_users = true }

-- the slot of a note's kind is empty
abbrev pub emptied : Note → Slots → Slots
emptied (Ack status) slots = record slots { ack = None }
emptied Change slots = record slots { change = false }
emptied ZeroUsers slots = record slots { zero_users = false }

-- the notes that wait, by their kinds: an acknowledgement, a change, no users any more
abbrev pub notes_in : Slots → List Note
notes_in slots =
    option_to_list (note_like (Ack 0) slots) ++ (option_to_list (note_like Change slots) ++ option_to_list (note_like ZeroUsers slots))

-- ---- both

-- nothing is asked for and nothing waits
abbrev pub no_notes : NodeNotes
no_notes = record { notifiers = no_notifiers; slots = no_slots }

-- nothing is asked for any more, and what waits stays
abbrev pub unasked : NodeNotes → NodeNotes
unasked of_node = record of_node { notifiers = no_notifiers }
