-- What all masters have asked for and what waits for each of them: the notes of each master, by its place in the object.
use Rattle.std.specs.Prelude.{◌≡◌, ℕ, Bool, true, false, [], List, map, replicate, slice_get, slice_set, unwrap_or, is_some, Option, Some, None, zero, suc}
use Rattle.pm_base.specs.declared.names.NodeId.{NodeId}
use Rattle.pm_base.specs.declared.names.Unit.TheVariants.{Node}
use Rattle.pm_topology.specs.declared.topology.Topology.{Topology}
use Rattle.pm_topology.specs.UnitMap.{all_at, units_in, value_of}
use Rattle.pm_topology.specs.Units.{rises, units_of}
use Rattle.pm_notify.specs.declared.notes.NodeEvent.{NodeEvent}
use Rattle.pm_notify.specs.declared.notes.Note.{Note}
use Rattle.pm_notify.specs.declared.notes.Waiting.{Waiting}
use Rattle.pm_notify.specs.MasterNotes.{MasterNotes, asks_about, forgotten, notes_at, waiting_in, with_note, with_notifier, without_note, without_notifiers}
use Rattle.pm_notify.specs.NodeNotes.{no_notes, note_like}

-- at load no master has asked for anything, and nothing waits
abbrev pub loaded : Topology → ℕ → List MasterNotes
loaded t masters = replicate masters (all_at no_notes (units_of t))

-- the notes of the master at a place: none where there is no such master
abbrev pub notes_for : ℕ → List MasterNotes → MasterNotes
notes_for m notify = unwrap_or (slice_get notify m) []

-- in the notes of a master the units stand in order, each once
abbrev pub IsInOrder : ℕ → List MasterNotes → Type 0
IsInOrder m notify = rises (units_in (notes_for m notify)) ≡ true

-- whether the master at a place is there and has a slot for each kind of note about a node
abbrev pub has_slots : ℕ → NodeId → List MasterNotes → Bool
has_slots m n notify = is_some (value_of (notes_for m notify) (Node n))

-- ---- notifiers

-- whether a master has asked to be told of an event of a node
abbrev pub asks_of : ℕ → NodeId → NodeEvent → List MasterNotes → Bool
asks_of m n event notify = asks_about n event (notes_for m notify)

-- no master has asked to be told of anything
abbrev pub NoneAsks : List MasterNotes → Type 0
NoneAsks notify = (m : ℕ) (n : NodeId) (event : NodeEvent) → asks_of m n event notify ≡ false

-- a master's notifier for an event of a node is on or off
abbrev pub registered : ℕ → NodeId → NodeEvent → Bool → List MasterNotes → List MasterNotes
registered m n event on notify = slice_set notify m (with_notifier n event on (notes_for m notify))

-- ---- waiting notes

-- the note that waits for a master about a node in the slot for this kind, if one does
abbrev pub note_of : ℕ → NodeId → Note → List MasterNotes → Option Note
note_of m n like notify = note_like like (notes_at n (notes_for m notify)).slots

-- a note about a node waits for a master, in place of what waited in its slot
abbrev pub noted : ℕ → NodeId → Note → List MasterNotes → List MasterNotes
noted m n note notify = slice_set notify m (with_note n note (notes_for m notify))

-- the slot for notes of this kind about a node is empty
abbrev pub dropped : ℕ → NodeId → Note → List MasterNotes → List MasterNotes
dropped m n note notify = slice_set notify m (without_note n note (notes_for m notify))

-- all that waits for a master, in the order in which it is told: by the number of the node, and then by the kind
abbrev pub waiting_for : ℕ → List MasterNotes → List Waiting
waiting_for m notify = waiting_in (notes_for m notify)

-- the first note that waits for a master, if one does
abbrev pub first_for : ℕ → List MasterNotes → Option Waiting
first_for m notify = slice_get (waiting_for m notify) 0

-- a note that waits for a master was taken out, if there is one
abbrev pub taken_out : ℕ → Option Waiting → List MasterNotes → List MasterNotes
taken_out m None notify = notify
taken_out m (Some waiting) notify = dropped m waiting.node waiting.note notify

-- the first note that waits for a master was taken out, this many times
abbrev pub taken : ℕ → ℕ → List MasterNotes → List MasterNotes
taken zero m notify = notify
taken (suc times) m notify = taken times m (taken_out m (first_for m notify) notify)

-- ---- a master that is off

-- a master has asked for nothing, and nothing waits for it
abbrev pub without_notes : ℕ → List MasterNotes → List MasterNotes
without_notes m notify = slice_set notify m (forgotten (notes_for m notify))

-- no master has asked for anything, and nothing waits
abbrev pub all_forgotten : List MasterNotes → List MasterNotes
all_forgotten notify = map forgotten notify

-- ---- another object is in force

-- no master has asked for anything any more, and what waits stays
abbrev pub none_asked : List MasterNotes → List MasterNotes
none_asked notify = map without_notifiers notify
