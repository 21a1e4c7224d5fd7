-- Where there is nothing to tell and no master wakes, no master is told anything, and no notes change.
use Rattle.std.proofs.Common.{◌≡◌, ℕ, ◌+◌, ◌<◌, Bool, false, if◌then◌else◌, List, [], ◌∷◌, ◌++◌, length, map, refl, ap, ◌∙◌, arith}
use Rattle.std.specs.Prelude.{flat_map}
use Rattle.pm_base.specs.declared.names.Mode.{Mode}
use Rattle.pm_base.specs.declared.names.Mode.TheVariants.{Off, Active, Asleep, Suspending}
use Rattle.pm_base.specs.declared.names.NodeId.{NodeId}
use Rattle.pm_notify.specs.declared.notes.NodeEvent.TheVariants as event
use Rattle.pm_notify.specs.declared.notes.Note.{Note}
use Rattle.pm_notify.specs.declared.notes.Note.TheVariants.{Ack, Change, ZeroUsers}
use Rattle.pm_notify.specs.declared.notes.Waiting.{Waiting}
use Rattle.pm_notify.specs.MasterNotes.{MasterNotes}
use Rattle.pm_notify.specs.Notify.{NoneAsks, notes_for}
use Rattle.pm_object.specs.declared.object.MasterRec.{MasterRec}
use Rattle.pm_state.specs.Members.{mode_of_master}
use Rattle.pm_state.specs.State.{State}
use Rattle.pm_state.specs.Talk.{take_of, wait_of}
use Rattle.pm_values.specs.Along.{mode_logged, modes_of}
use Rattle.pm_values.proofs.AlongLaw.{mode_is}
use Rattle.pm_tell.specs.Callbacks.{IsQuiet, News, acknowledged_to, asks_to, callback_of, callbacks, callbacks_from, called_back, is_wanted, note_changes, note_changes_at, note_changes_from, noticed_by, notes_to, told_if, wakes}

-- ---- no master has asked to be told of anything

unwanted : (notes : List MasterNotes) → NoneAsks notes → (k : ℕ) (w : Waiting) (note : Note) → is_wanted (notes_for k notes) w note ≡ false
unwanted notes none k w (Ack status) = refl
unwanted notes none k w Change = none k w.node event.Change
unwanted notes none k w ZeroUsers = none k w.node event.ZeroUsers

pub none_noticed : (notes : List MasterNotes) → NoneAsks notes → (k : ℕ) (ws : List Waiting) → flat_map (noticed_by (notes_for k notes)) ws ≡ []
none_noticed notes none k [] = refl
none_noticed notes none k (w ∷ ws) =
    ap (λ (b : Bool). (if b then w ∷ [] else []) ++ flat_map (noticed_by (notes_for k notes)) ws) (unwanted notes none k w w.note)
    ∙ none_noticed notes none k ws

-- ---- there is nothing to tell, and no master wakes

module _ (news : News) (notes : List MasterNotes) (quiet : IsQuiet news notes) where
  no_notes_to : (k : ℕ) → notes_to news k (notes_for k notes) ≡ []
  no_notes_to k =
      ap (λ ended. flat_map (acknowledged_to k) ended ++ flat_map (noticed_by (notes_for k notes)) news.notices) quiet.ended
      ∙ quiet.notices k

  none_changes : (k : ℕ) (was is : Mode) → wakes was is ≡ false → note_changes_at news k was is (notes_for k notes) ≡ []
  none_changes k was Off sleeps = refl
  none_changes k was Active sleeps = ap (λ woken. map (take_of k) (told_if woken (notes_for k notes))) sleeps
  none_changes k was Asleep sleeps = ap (map (wait_of k)) (no_notes_to k)
  none_changes k was Suspending sleeps = ap (λ woken. map (take_of k) (told_if woken (notes_for k notes))) sleeps

  -- a master that is active or suspending, and doesn't wake
  none_called : (k : ℕ) (master : NodeId) (woken : Bool) (after : State) → woken ≡ false
      → map (callback_of master after) (told_if woken (notes_for k notes))
      ++ (asks_to k master news.asked ++ map (callback_of master after) (notes_to news k (notes_for k notes))) ≡ []
  none_called k master woken after sleeps =
      ap (λ w. map (callback_of master after) (told_if w (notes_for k notes))
      ++ (asks_to k master news.asked ++ map (callback_of master after) (notes_to news k (notes_for k notes)))) sleeps
      ∙ (ap (λ asked. asks_to k master asked ++ map (callback_of master after) (notes_to news k (notes_for k notes))) quiet.asked
      ∙ ap (map (callback_of master after)) (no_notes_to k))

  none_calls : (k : ℕ) (master : NodeId) (was is : Mode) (after : State) → wakes was is ≡ false → called_back news k master was is (notes_for k notes) after ≡ []
  none_calls k master was Off after sleeps = refl
  none_calls k master was Active after sleeps = none_called k master (wakes was Active) after sleeps
  none_calls k master was Asleep after sleeps = refl
  none_calls k master was Suspending after sleeps = none_called k master (wakes was Suspending) after sleeps

  module _ (was : ℕ → Mode) (after : State) where
    changes_from : (k : ℕ) (masters : List MasterRec) → ((m : ℕ) → m < k + length masters → wakes (was m) (mode_of_master after.fixed after.now.core m) ≡ false)
        → note_changes_from news was notes after k masters ≡ []
    changes_from k [] sleep = refl
    changes_from k (master ∷ masters) sleep =
        ap (λ ts. ts ++ note_changes_from news was notes after (k + 1) masters)
        (none_changes k (was k) (mode_of_master after.fixed after.now.core k) (sleep k (omega arith)))
        ∙ changes_from (k + 1) masters (λ m within. sleep m (omega (arith, within)))

    calls_from : (k : ℕ) (masters : List MasterRec) → ((m : ℕ) → m < k + length masters → wakes (was m) (mode_of_master after.fixed after.now.core m) ≡ false)
        → callbacks_from news was notes after k masters ≡ []
    calls_from k [] sleep = refl
    calls_from k (master ∷ masters) sleep =
        ap (λ cs. cs ++ callbacks_from news was notes after (k + 1) masters)
        (none_calls k (record { 0 = master.node }) (was k) (mode_of_master after.fixed after.now.core k) after (sleep k (omega arith)))
        ∙ calls_from (k + 1) masters (λ m within. sleep m (omega (arith, within)))

    pub no_changes : ((m : ℕ) → m < length after.fixed.object.masters → wakes (was m) (mode_of_master after.fixed after.now.core m) ≡ false) → note_changes news was notes after ≡ []
    no_changes sleep = changes_from 0 after.fixed.object.masters (λ m within. sleep m (omega (arith, within)))

    pub no_calls : ((m : ℕ) → m < length after.fixed.object.masters → wakes (was m) (mode_of_master after.fixed after.now.core m) ≡ false) → callbacks news was notes after ≡ []
    no_calls sleep = calls_from 0 after.fixed.object.masters (λ m within. sleep m (omega (arith, within)))

-- a mode that stays doesn't wake
stays_so : (mode : Mode) → wakes mode mode ≡ false
stays_so Off = refl
stays_so Active = refl
stays_so Asleep = refl
stays_so Suspending = refl

-- where the modes before are those of the book, none wakes
pub none_wakes : (book : State) (modes : List Mode) → modes ≡ modes_of book → (m : ℕ) → m < length book.fixed.object.masters → wakes (mode_logged modes m) (mode_of_master book.fixed book.now.core m) ≡ false
none_wakes book modes are m within =
    let mode : Mode = mode_of_master book.fixed book.now.core m in
    ap (λ was. wakes was mode) (ap (λ ms. mode_logged ms m) are ∙ mode_is book m within) ∙ stays_so mode
