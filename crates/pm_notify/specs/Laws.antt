-- What holds of all notifiers, of all notes that wait, and of the order in which they are taken.
use Rattle.std.specs.Prelude.{◌≡◌, ◌≢◌, ℕ, ◌*◌, ◌<◌, ◌≤◌, ◌==◌, ◌&&◌, ◌↔◌, Bool, true, false, if◌then◌else◌, List, [], ◌∷◌, drop, length, Contains, Some, None}
use Rattle.std.specs.List.{list_all}
use Rattle.pm_base.specs.declared.names.NodeId.{NodeId}
use Rattle.pm_topology.specs.declared.topology.Topology.{Topology}
use Rattle.pm_topology.specs.UnitMap.{units_in}
use Rattle.pm_topology.specs.Units.{units_of}
use Rattle.pm_notify.specs.declared.notes.NodeEvent.{NodeEvent}
use Rattle.pm_notify.specs.declared.notes.Note.{Note}
use Rattle.pm_notify.specs.declared.notes.Waiting.{Waiting}
use Rattle.pm_notify.specs.MasterNotes.{MasterNotes}
use Rattle.pm_notify.specs.Notes.{is_told_before, same_event, same_kind}
use Rattle.pm_notify.specs.Notify.{IsInOrder, all_forgotten, asks_of, dropped, first_for, has_slots, loaded, none_asked, notes_for, note_of, noted, registered, taken, taken_out, waiting_for, without_notes}

-- the master at place k and the node o are the master at place m and the node n, and these are there
abbrev pub is_at : ℕ → NodeId → List MasterNotes → ℕ → NodeId → Bool
is_at m n notify k o = (k == m) && ((n.0 == o.0) && has_slots m n notify)

-- each of these notes is told before all later ones, so none stands twice
abbrev pub are_told_in_order : List Waiting → Bool
are_told_in_order [] = true
are_told_in_order (w ∷ later) = list_all (is_told_before w) later && are_told_in_order later

-- of the events that masters have asked for
pub record NotifierLaws : Type 0 where
  -- a notifier is on or off as it was put, and all others are as they were
  pub puts : (m : ℕ) (n : NodeId) (event : NodeEvent) (on : Bool) (notify : List MasterNotes) (k : ℕ) (o : NodeId) (other : NodeEvent)
      → asks_of k o other (registered m n event on notify)
      ≡ (if is_at m n notify k o && same_event other event then on else asks_of k o other notify)
  -- no note that waits or is taken out changes one
  pub waits : (m : ℕ) (n : NodeId) (note : Note) (notify : List MasterNotes) (k : ℕ) (o : NodeId) (event : NodeEvent)
      → asks_of k o event (noted m n note notify) ≡ asks_of k o event notify
  pub takes : (m : ℕ) (n : NodeId) (note : Note) (notify : List MasterNotes) (k : ℕ) (o : NodeId) (event : NodeEvent)
      → asks_of k o event (dropped m n note notify) ≡ asks_of k o event notify
  -- a master whose notes are cleared asks for nothing, and so do all at load
  pub clears : (m : ℕ) (notify : List MasterNotes) (k : ℕ) (o : NodeId) (event : NodeEvent)
      → asks_of k o event (without_notes m notify) ≡ (if k == m then false else asks_of k o event notify)
  pub loads : (t : Topology) (masters k : ℕ) (o : NodeId) (event : NodeEvent) → asks_of k o event (loaded t masters) ≡ false
  -- where all notifiers are dropped, no master asks for anything
  pub forgets : (notify : List MasterNotes) (k : ℕ) (o : NodeId) (event : NodeEvent) → asks_of k o event (none_asked notify) ≡ false

-- of the slots in which notes wait, one for each master, node and kind
pub record SlotLaws : Type 0 where
  -- a note waits in the slot of its kind in place of what was there, and all other slots are as they were
  pub waits : (m : ℕ) (n : NodeId) (note : Note) (notify : List MasterNotes) (k : ℕ) (o : NodeId) (like : Note)
      → note_of k o like (noted m n note notify)
      ≡ (if is_at m n notify k o && same_kind like note then Some note else note_of k o like notify)
  -- a note that is taken out leaves its slot empty, and all others as they were
  pub takes : (m : ℕ) (n : NodeId) (note : Note) (notify : List MasterNotes) (k : ℕ) (o : NodeId) (like : Note)
      → note_of k o like (dropped m n note notify)
      ≡ (if is_at m n notify k o && same_kind like note then None else note_of k o like notify)
  -- no notifier changes a slot
  pub puts : (m : ℕ) (n : NodeId) (event : NodeEvent) (on : Bool) (notify : List MasterNotes) (k : ℕ) (o : NodeId) (like : Note)
      → note_of k o like (registered m n event on notify) ≡ note_of k o like notify
  -- nothing waits for a master whose notes are cleared, nor for any at load
  pub clears : (m : ℕ) (notify : List MasterNotes) (k : ℕ) (o : NodeId) (like : Note)
      → note_of k o like (without_notes m notify) ≡ (if k == m then None else note_of k o like notify)
  pub loads : (t : Topology) (masters k : ℕ) (o : NodeId) (like : Note) → note_of k o like (loaded t masters) ≡ None
  -- where all notifiers are dropped, what waits stays
  pub forgets : (notify : List MasterNotes) (k : ℕ) (o : NodeId) (like : Note)
      → note_of k o like (none_asked notify) ≡ note_of k o like notify

-- of the notes of other masters: they are as they were
pub record OtherNotesLaws : Type 0 where
  pub puts : (m : ℕ) (n : NodeId) (event : NodeEvent) (on : Bool) (notify : List MasterNotes) (k : ℕ)
      → k ≢ m → notes_for k (registered m n event on notify) ≡ notes_for k notify
  pub waits : (m : ℕ) (n : NodeId) (note : Note) (notify : List MasterNotes) (k : ℕ)
      → k ≢ m → notes_for k (noted m n note notify) ≡ notes_for k notify
  pub takes : (m : ℕ) (n : NodeId) (note : Note) (notify : List MasterNotes) (k : ℕ)
      → k ≢ m → notes_for k (dropped m n note notify) ≡ notes_for k notify
  pub clears : (m : ℕ) (notify : List MasterNotes) (k : ℕ) → k ≢ m → notes_for k (without_notes m notify) ≡ notes_for k notify

-- of the units in the notes of each master: those of the chip, in order, at load and from then on
pub record OrderLaws : Type 0 where
  pub loads : (t : Topology) (masters m : ℕ) → IsInOrder m (loaded t masters)
  pub units : (t : Topology) (masters m : ℕ) → m < masters → units_in (notes_for m (loaded t masters)) ≡ units_of t
  pub puts : (m : ℕ) (n : NodeId) (event : NodeEvent) (on : Bool) (notify : List MasterNotes) (k : ℕ)
      → units_in (notes_for k (registered m n event on notify)) ≡ units_in (notes_for k notify)
  pub waits : (m : ℕ) (n : NodeId) (note : Note) (notify : List MasterNotes) (k : ℕ)
      → units_in (notes_for k (noted m n note notify)) ≡ units_in (notes_for k notify)
  pub takes : (m : ℕ) (n : NodeId) (note : Note) (notify : List MasterNotes) (k : ℕ)
      → units_in (notes_for k (dropped m n note notify)) ≡ units_in (notes_for k notify)
  pub clears : (m : ℕ) (notify : List MasterNotes) (k : ℕ) → units_in (notes_for k (without_notes m notify)) ≡ units_in (notes_for k notify)
  pub restarts : (notify : List MasterNotes) (k : ℕ) → units_in (notes_for k (all_forgotten notify)) ≡ units_in (notes_for k notify)
  pub forgets : (notify : List MasterNotes) (k : ℕ) → units_in (notes_for k (none_asked notify)) ≡ units_in (notes_for k notify)
  -- where all masters forget, all is as at load
  pub as_loaded : (t : Topology) (notify : List MasterNotes)
      → ((m : ℕ) → m < length notify → units_in (notes_for m notify) ≡ units_of t)
      → all_forgotten notify ≡ loaded t (length notify)

-- of the order in which notes are taken
pub record TakeLaws : Type 0 where
  -- exactly what stands in the slots waits
  pub exactly : (m : ℕ) (notify : List MasterNotes) (w : Waiting) → IsInOrder m notify
      → Contains (waiting_for m notify) w ↔ (note_of m w.node w.note notify ≡ Some w.note)
  -- by the number of the node, and then by the kind
  pub ordered : (m : ℕ) (notify : List MasterNotes) → IsInOrder m notify → are_told_in_order (waiting_for m notify) ≡ true
  -- each take takes the first one, and nothing else
  pub next : (m : ℕ) (notify : List MasterNotes) → IsInOrder m notify
      → waiting_for m (taken_out m (first_for m notify) notify) ≡ drop 1 (waiting_for m notify)
  pub all : (times m : ℕ) (notify : List MasterNotes) → IsInOrder m notify
      → waiting_for m (taken times m notify) ≡ drop times (waiting_for m notify)
  -- after as many takes as notes wait, none waits
  pub drained : (m : ℕ) (notify : List MasterNotes) → IsInOrder m notify
      → first_for m (taken (length (waiting_for m notify)) m notify) ≡ None
  -- at most three notes wait about each unit
  pub few : (m : ℕ) (notify : List MasterNotes) → length (waiting_for m notify) ≤ 3 * length (notes_for m notify)
