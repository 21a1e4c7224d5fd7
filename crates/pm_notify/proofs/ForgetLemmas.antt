-- Notifiers are dropped place by place, and what waits stays.
use Rattle.std.proofs.Common.{◌≡◌, ℕ, ◌+◌, ◌<◌, ◌++◌, Bool, false, List, [], ◌∷◌, zero, suc, length, take, drop, refl, ap, sym, ◌∙◌, arith, inl, inr}
use Rattle.std.specs.Prelude.{Option, Some, None, slice_get, unwrap_or}
use Rattle.std.specs.Option.{option_map}
use Rattle.std.proofs.lemmas.Option.{slice_get_cases}
use Rattle.pm_base.specs.declared.names.NodeId.{NodeId}
use Rattle.pm_base.specs.declared.names.Unit.{Unit}
use Rattle.pm_base.specs.declared.names.Unit.TheVariants.{Node}
use Rattle.pm_topology.specs.UnitMap.{TableLaws, TablePlaceLaws, mapped, units_in, value_of, with_value_at}
use Rattle.pm_notify.specs.declared.notes.NodeEvent.{NodeEvent}
use Rattle.pm_notify.specs.declared.notes.Note.{Note}
use Rattle.pm_notify.specs.declared.node_notes.NodeNotes.{NodeNotes}
use Rattle.pm_notify.specs.MasterNotes.{MasterNotes, notes_at, only_waiting, without_notifiers}
use Rattle.pm_notify.specs.NodeNotes.{asks, no_notes, note_like, unasked}
use Rattle.pm_notify.specs.Notify.{asks_of, none_asked, note_of, notes_for}
use Rattle.pm_notify.proofs.NodeLemmas.{unasked as asks_nothing}

-- ---- one after another

module _ (places : TablePlaceLaws NodeNotes) (old now new : MasterNotes) (place : ℕ)
    (so_far : now ≡ mapped only_waiting (take place old) ++ drop place old) where
  there : slice_get now place ≡ slice_get old place
  there = ap (λ (notes : MasterNotes). slice_get notes place) so_far ∙ places.next only_waiting old place

  pub forget_step : (e : Unit × NodeNotes) → slice_get now place ≡ Some e
      → new ≡ with_value_at place (unasked e.1) now
      → new ≡ mapped only_waiting (take (place + 1) old) ++ drop (place + 1) old
  forget_step e here forgets =
      forgets
      ∙ ap (with_value_at place (unasked e.1)) so_far
      ∙ places.made only_waiting old place e (sym there ∙ here)

  pub is_there : place < length old → slice_get now place ≡ None → ⊥
  is_there within none =
      elim ((slice_get_cases old place).1) [
        | inl here ↦ (let clash : Some here.0 ≡ None = sym here.2 ∙ sym there ∙ none in cc)
        | inr past ↦ absurd (omega (arith, past.0))
      ]

-- ---- what is left

module _ (tables : TableLaws NodeNotes) where
  -- what a master's notes say about a node once its notifiers are dropped
  left_at : (o : NodeId) (notes : MasterNotes) → notes_at o (without_notifiers notes) ≡ unasked (notes_at o notes)
  left_at o notes = ap (λ found. unwrap_or found no_notes) (tables.made only_waiting notes (Node o)) ∙ at (value_of notes (Node o))
    where
      at : (found : Option NodeNotes) → unwrap_or (option_map unasked found) no_notes ≡ unasked (unwrap_or found no_notes)
      at None = refl
      at (Some of_node) = refl

  left_for : (notify : List MasterNotes) (k : ℕ) → notes_for k (none_asked notify) ≡ without_notifiers (notes_for k notify)
  left_for [] k = refl
  left_for (notes ∷ notify) zero = refl
  left_for (notes ∷ notify) (suc k) = left_for notify k

  left : (notify : List MasterNotes) (k : ℕ) (o : NodeId) → notes_at o (notes_for k (none_asked notify)) ≡ unasked (notes_at o (notes_for k notify))
  left notify k o = ap (notes_at o) (left_for notify k) ∙ left_at o (notes_for k notify)

  pub none_asks : (notify : List MasterNotes) (k : ℕ) (o : NodeId) (event : NodeEvent) → asks_of k o event (none_asked notify) ≡ false
  none_asks notify k o event = ap (λ (of_node : NodeNotes). asks event of_node.notifiers) (left notify k o) ∙ asks_nothing event

  pub still_waits : (notify : List MasterNotes) (k : ℕ) (o : NodeId) (like : Note) → note_of k o like (none_asked notify) ≡ note_of k o like notify
  still_waits notify k o like = ap (λ (of_node : NodeNotes). note_like like of_node.slots) (left notify k o)

  pub same_units : (notify : List MasterNotes) (k : ℕ) → units_in (notes_for k (none_asked notify)) ≡ units_in (notes_for k notify)
  same_units notify k = ap (λ (notes : MasterNotes). units_in notes) (left_for notify k) ∙ tables.made_units only_waiting (notes_for k notify)
