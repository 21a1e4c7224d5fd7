-- What a change of one master's notifiers and slots leaves, and what it is read as.
use Rattle.std.proofs.Common.{◌∙◌, Bool, false, refl, ap}
use Rattle.std.specs.Prelude.{None, Some}
use Rattle.pm_base.specs.declared.names.Unit.TheVariants.{Node}
use Rattle.pm_topology.specs.UnitMap.{TableLaws}
use Rattle.pm_topology.specs.Units.{UnitLaws}
use Rattle.pm_notify.specs.declared.notes.NodeEvent.{NodeEvent}
use Rattle.pm_notify.specs.declared.notes.Note.{Note}
use Rattle.pm_notify.specs.declared.node_notes.NodeNotes.{NodeNotes}
use Rattle.pm_notify.specs.Laws.{NotifierLaws, OrderLaws, OtherNotesLaws, SlotLaws}
use Rattle.pm_notify.specs.MasterNotes.{asks_about, forgotten, notes_at, nothing_more, with_note, with_notifier, without_note}
use Rattle.pm_notify.specs.NodeNotes.{asks, emptied, filled, note_like, with_asked}
use Rattle.pm_notify.specs.Notes.{same_event, same_kind}
use Rattle.pm_notify.proofs.MasterNotesLemmas.{master_notes_cleared, master_notes_kept, master_notes_put, notes_forgotten, notes_kept, notes_loaded, notes_put, order_loaded, other_notes, units_kept, units_loaded}
use Rattle.pm_notify.proofs.ForgetLemmas.{none_asks, same_units, still_waits}
use Rattle.pm_notify.proofs.RestartLemmas.{all_units, as_loaded}
use Rattle.pm_notify.proofs.NodeLemmas.{asked_after, emptied_after, filled_after, none_waits, unasked}

-- what is kept about a node once a notifier was put, a note waits, or one was taken out
abbrev put : NodeEvent → Bool → NodeNotes → NodeNotes
put event on of_node = record of_node { notifiers = with_asked event on of_node.notifiers }

abbrev fill : Note → NodeNotes → NodeNotes
fill note of_node = record of_node { slots = filled note of_node.slots }

abbrev empty : Note → NodeNotes → NodeNotes
empty note of_node = record of_node { slots = emptied note of_node.slots }

abbrev asks_in : NodeEvent → NodeNotes → Bool
asks_in event of_node = asks event of_node.notifiers

module _ (tables : TableLaws NodeNotes) (units : UnitLaws) where
  pub notifier_laws : NotifierLaws
  notifier_laws = record {
    puts = λ m n event on notify k o other.
        master_notes_put (with_notifier n event on) refl (asks_about o other) n o (same_event other event) on
        (λ notes. notes_put tables units (asks_in other) n o (put event on (notes_at n notes)) notes (same_event other event) on
        (asked_after event other on (notes_at n notes).notifiers))
        m k notify;
    waits = λ m n note notify k o event.
        master_notes_kept (with_note n note) refl (asks_about o event)
        (λ notes. notes_kept tables units (asks_in event) n o (fill note (notes_at n notes)) notes refl) m k notify;
    takes = λ m n note notify k o event.
        master_notes_kept (without_note n note) refl (asks_about o event)
        (λ notes. notes_kept tables units (asks_in event) n o (empty note (notes_at n notes)) notes refl) m k notify;
    clears = λ m notify k o event.
        master_notes_cleared forgotten refl (asks_about o event) false
        (λ notes. ap (asks_in event) (notes_forgotten tables units o notes) ∙ unasked event) m k notify;
    loads = λ t masters k o event. ap (asks_in event) (notes_loaded tables units t masters k o) ∙ unasked event;
    forgets = none_asks tables;
  }

  pub slot_laws : SlotLaws
  slot_laws = record {
    waits = λ m n note notify k o like.
        master_notes_put (with_note n note) refl (λ notes. note_like like (notes_at o notes).slots) n o (same_kind like note) (Some note)
        (λ notes. notes_put tables units (λ of_node. note_like like of_node.slots) n o (fill note (notes_at n notes)) notes (same_kind like note) (Some note)
        (filled_after note like (notes_at n notes).slots))
        m k notify;
    takes = λ m n note notify k o like.
        master_notes_put (without_note n note) refl (λ notes. note_like like (notes_at o notes).slots) n o (same_kind like note) None
        (λ notes. notes_put tables units (λ of_node. note_like like of_node.slots) n o (empty note (notes_at n notes)) notes (same_kind like note) None
        (emptied_after note like (notes_at n notes).slots))
        m k notify;
    puts = λ m n event on notify k o like.
        master_notes_kept (with_notifier n event on) refl (λ notes. note_like like (notes_at o notes).slots)
        (λ notes. notes_kept tables units (λ of_node. note_like like of_node.slots) n o (put event on (notes_at n notes)) notes refl) m k notify;
    clears = λ m notify k o like.
        master_notes_cleared forgotten refl (λ notes. note_like like (notes_at o notes).slots) None
        (λ notes. ap (λ (of_node : NodeNotes). note_like like of_node.slots) (notes_forgotten tables units o notes) ∙ none_waits like) m k notify;
    loads = λ t masters k o like.
        ap (λ (of_node : NodeNotes). note_like like of_node.slots) (notes_loaded tables units t masters k o) ∙ none_waits like;
    forgets = still_waits tables;
  }

  pub order_laws : OrderLaws
  order_laws = record {
    loads = order_loaded tables units;
    units = units_loaded tables units;
    puts = λ m n event on notify k.
        units_kept (with_notifier n event on) refl (λ notes. tables.set_units (Node n) (put event on (notes_at n notes)) notes) m k notify;
    waits = λ m n note notify k.
        units_kept (with_note n note) refl (λ notes. tables.set_units (Node n) (fill note (notes_at n notes)) notes) m k notify;
    takes = λ m n note notify k.
        units_kept (without_note n note) refl (λ notes. tables.set_units (Node n) (empty note (notes_at n notes)) notes) m k notify;
    clears = λ m notify k. units_kept forgotten refl (λ notes. tables.made_units nothing_more notes) m k notify;
    restarts = all_units tables;
    forgets = same_units tables;
    as_loaded = as_loaded;
  }

pub other_notes_laws : OtherNotesLaws
other_notes_laws = record {
  puts = λ m n event on notify k other. other_notes m k _ notify other;
  waits = λ m n note notify k other. other_notes m k _ notify other;
  takes = λ m n note notify k other. other_notes m k _ notify other;
  clears = λ m notify k other. other_notes m k _ notify other;
}
