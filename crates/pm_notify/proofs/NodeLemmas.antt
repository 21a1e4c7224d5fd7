-- What is read of one node's notifiers and slots after a change of one.
use Rattle.std.proofs.Common.{◌≡◌, Bool, false, cond, refl}
use Rattle.std.specs.Prelude.{Some, None}
use Rattle.pm_notify.specs.declared.notes.NodeEvent.{NodeEvent}
use Rattle.pm_notify.specs.declared.notes.NodeEvent.TheVariants as event
use Rattle.pm_notify.specs.declared.notes.Note.{Note}
use Rattle.pm_notify.specs.declared.notes.Note.TheVariants.{Ack, Change, ZeroUsers}
use Rattle.pm_notify.specs.declared.node_notes.Notifiers.{Notifiers}
use Rattle.pm_notify.specs.declared.node_notes.Slots.{Slots}
use Rattle.pm_notify.specs.Notes.{same_event, same_kind}
use Rattle.pm_notify.specs.NodeNotes.{asks, emptied, filled, no_notifiers, no_slots, note_like, with_asked}

pub asked_after : (event other : NodeEvent) (on : Bool) (notifiers : Notifiers) → asks other (with_asked event on notifiers) ≡ cond (same_event other event) on (asks other notifiers)
asked_after event.Change event.Change on notifiers = refl
asked_after event.Change event.ZeroUsers on notifiers = refl
asked_after event.ZeroUsers event.Change on notifiers = refl
asked_after event.ZeroUsers event.ZeroUsers on notifiers = refl

pub unasked : (event : NodeEvent) → asks event no_notifiers ≡ false
unasked event.Change = refl
unasked event.ZeroUsers = refl

pub filled_after : (note like : Note) (slots : Slots) → note_like like (filled note slots) ≡ cond (same_kind like note) (Some note) (note_like like slots)
filled_after (Ack status) (Ack other) slots = refl
filled_after (Ack status) Change slots = refl
filled_after (Ack status) ZeroUsers slots = refl
filled_after Change (Ack other) slots = refl
filled_after Change Change slots = refl
filled_after Change ZeroUsers slots = refl
filled_after ZeroUsers (Ack other) slots = refl
filled_after ZeroUsers Change slots = refl
filled_after ZeroUsers ZeroUsers slots = refl

pub emptied_after : (note like : Note) (slots : Slots) → note_like like (emptied note slots) ≡ cond (same_kind like note) None (note_like like slots)
emptied_after (Ack status) (Ack other) slots = refl
emptied_after (Ack status) Change slots = refl
emptied_after (Ack status) ZeroUsers slots = refl
emptied_after Change (Ack other) slots = refl
emptied_after Change Change slots = refl
emptied_after Change ZeroUsers slots = refl
emptied_after ZeroUsers (Ack other) slots = refl
emptied_after ZeroUsers Change slots = refl
emptied_after ZeroUsers ZeroUsers slots = refl

pub none_waits : (like : Note) → note_like like no_slots ≡ None
none_waits (Ack status) = refl
none_waits Change = refl
none_waits ZeroUsers = refl
