-- Where no master has asked for anything, none has once the notes of one are changed in another way than by a notifier.
use Rattle.std.proofs.Common.{◌≡◌, ℕ, ◌<◌, Bool, true, false, cond, List, [], ◌∷◌, get_or, length, zero, suc, refl, ap, sym, ◌∙◌, arith, inl, inr}
use Rattle.std.specs.Prelude.{slice_set, unwrap_or}
use Rattle.std.proofs.lemmas.Option.{slice_get_cases, unwrap_or-slice_get}
use Rattle.pm_base.specs.declared.names.NodeId.{NodeId}
use Rattle.pm_topology.specs.UnitMap.{TableLaws}
use Rattle.pm_topology.specs.Units.{UnitLaws}
use Rattle.pm_notify.specs.declared.node_notes.NodeNotes.{NodeNotes}
use Rattle.pm_notify.specs.declared.notes.NodeEvent.{NodeEvent}
use Rattle.pm_notify.specs.Laws.{NotifierLaws}
use Rattle.pm_notify.specs.MasterNotes.{MasterNotes, asks_about, forgotten}
use Rattle.pm_notify.specs.NodeNotes.{asks}
use Rattle.pm_notify.specs.Notify.{NoneAsks, all_forgotten, asks_of, notes_for, without_notes}
use Rattle.pm_notify.proofs.MasterNotesLemmas.{notes_forgotten}
use Rattle.pm_notify.proofs.NodeLemmas.{unasked}

-- the notes of the master at a place that is there are those that stand there
module _ (notify : List MasterNotes) (m : ℕ) (old : MasterNotes) where
  here : m < length notify → old ≡ get_or notify m old → old ≡ notes_for m notify
  here within value =
      elim ((slice_get_cases notify m).1) [
        | inl found ↦ (value ∙ (sym (unwrap_or-slice_get notify m old) ∙ (ap (λ o. unwrap_or o old) found.2 ∙ sym (ap (λ o. unwrap_or o []) found.2))))
        | inr past ↦ absurd (omega (arith, within, past.0))
      ]

  pub changed : (f : MasterNotes → MasterNotes) (new : MasterNotes) → m < length notify → old ≡ get_or notify m old → new ≡ f old
      → slice_set notify m new ≡ slice_set notify m (f (notes_for m notify))
  changed f new within value is = ap (slice_set notify m) (is ∙ ap f (here within value))

-- a master whose notes are cleared
none_if : (b asked : Bool) → asked ≡ false → cond b false asked ≡ false
none_if true asked none = refl
none_if false asked none = none

pub none_cleared : NotifierLaws → (m : ℕ) (notify : List MasterNotes) → NoneAsks notify → NoneAsks (without_notes m notify)
none_cleared laws m notify none k o event = laws.clears m notify k o event ∙ none_if _ (asks_of k o event notify) (none k o event)

-- all masters forget
forgotten_for : (notify : List MasterNotes) (k : ℕ) → notes_for k (all_forgotten notify) ≡ forgotten (notes_for k notify)
forgotten_for [] k = refl
forgotten_for (notes ∷ notify) zero = refl
forgotten_for (notes ∷ notify) (suc k) = forgotten_for notify k

pub none_restarted : TableLaws NodeNotes → UnitLaws → (notify : List MasterNotes) → NoneAsks (all_forgotten notify)
none_restarted tables units notify k o event =
    ap (λ (notes : MasterNotes). asks_about o event notes) (forgotten_for notify k)
    ∙ (ap (λ (of_node : NodeNotes). asks event of_node.notifiers) (notes_forgotten tables units o (notes_for k notify)) ∙ unasked event)
