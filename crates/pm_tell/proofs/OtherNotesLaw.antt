-- What is told to one master leaves the notes of all others, and what a master asked for.
use Rattle.std.proofs.Common.{◌≡◌, ◌≢◌, ℕ, ◌++◌, if◌then◌else◌, List, [], ◌∷◌, map, refl, ◌∙◌, ap}
use Rattle.std.specs.Prelude.{flat_map}
use Rattle.pm_base.specs.declared.names.Mode.{Mode}
use Rattle.pm_base.specs.declared.names.Mode.TheVariants.{Off, Active, Asleep, Suspending}
use Rattle.pm_base.specs.declared.names.NodeId.{NodeId}
use Rattle.pm_notify.specs.declared.notes.NodeEvent.{NodeEvent}
use Rattle.pm_notify.specs.declared.notes.NodeEvent.TheVariants as event
use Rattle.pm_notify.specs.declared.notes.Note.{Note}
use Rattle.pm_notify.specs.declared.notes.Note.TheVariants.{Ack, Change, ZeroUsers}
use Rattle.pm_notify.specs.declared.notes.Waiting.{Waiting}
use Rattle.pm_notify.specs.Laws.{NotifierLaws, OtherNotesLaws}
use Rattle.pm_notify.specs.MasterNotes.{MasterNotes, asks_about}
use Rattle.pm_notify.specs.Notify.{notes_for}
use Rattle.pm_tell.specs.Callbacks.{News, acknowledged_to, is_wanted, note_changes_at, noticed_by, notes_to, told_at_wake}
use Rattle.pm_state.specs.State.{TalkHalf}
use Rattle.pm_state.specs.Talk.{apply_talk, take_of, talks, wait_of}

waits_others : OtherNotesLaws → (k j : ℕ) (due : List Waiting) (half : TalkHalf) → j ≢ k → notes_for j (talks (map (wait_of k) due) half).notes ≡ notes_for j half.notes
waits_others laws k j [] half other = refl
waits_others laws k j (w ∷ due) half other =
    waits_others laws k j due (apply_talk (wait_of k w) half) other ∙ laws.waits k w.node w.note half.notes j other

takes_others : OtherNotesLaws → (k j : ℕ) (due : List Waiting) (half : TalkHalf) → j ≢ k → notes_for j (talks (map (take_of k) due) half).notes ≡ notes_for j half.notes
takes_others laws k j [] half other = refl
takes_others laws k j (w ∷ due) half other =
    takes_others laws k j due (apply_talk (take_of k w) half) other ∙ laws.takes k w.node w.note half.notes j other

-- what the master at place k is told leaves the notes of the one at place j
pub changes_leave_others : OtherNotesLaws → (news : News) (k j : ℕ) (was is : Mode) (notes : MasterNotes) (half : TalkHalf) → j ≢ k → notes_for j (talks (note_changes_at news k was is notes) half).notes ≡ notes_for j half.notes
changes_leave_others laws news k j was Off notes half other = refl
changes_leave_others laws news k j was Active notes half other = takes_others laws k j (told_at_wake was Active notes) half other
changes_leave_others laws news k j was Asleep notes half other = waits_others laws k j (notes_to news k notes) half other
changes_leave_others laws news k j was Suspending notes half other = takes_others laws k j (told_at_wake was Suspending notes) half other

-- the same is asked for in both
abbrev pub AskAlike : MasterNotes → MasterNotes → Type 0
AskAlike a b = (node : NodeId) (event : NodeEvent) → asks_about node event a ≡ asks_about node event b

pub waits_ask : NotifierLaws → (k j : ℕ) (due : List Waiting) (half : TalkHalf) → AskAlike (notes_for j (talks (map (wait_of k) due) half).notes) (notes_for j half.notes)
waits_ask laws k j [] half = λ node event. refl
waits_ask laws k j (w ∷ due) half = λ node event.
    waits_ask laws k j due (apply_talk (wait_of k w) half) node event ∙ laws.waits k w.node w.note half.notes j node event

pub takes_ask : NotifierLaws → (k j : ℕ) (due : List Waiting) (half : TalkHalf) → AskAlike (notes_for j (talks (map (take_of k) due) half).notes) (notes_for j half.notes)
takes_ask laws k j [] half = λ node event. refl
takes_ask laws k j (w ∷ due) half = λ node event.
    takes_ask laws k j due (apply_talk (take_of k w) half) node event ∙ laws.takes k w.node w.note half.notes j node event

pub wanted_alike : (a b : MasterNotes) (notice : Waiting) (note : Note) → AskAlike a b → is_wanted a notice note ≡ is_wanted b notice note
wanted_alike a b notice (Ack status) alike = refl
wanted_alike a b notice Change alike = alike notice.node event.Change
wanted_alike a b notice ZeroUsers alike = alike notice.node event.ZeroUsers

pub noticed_alike : (a b : MasterNotes) (notice : Waiting) → AskAlike a b → noticed_by a notice ≡ noticed_by b notice
noticed_alike a b notice alike = ap (λ wanted. if wanted then notice ∷ [] else []) (wanted_alike a b notice notice.note alike)

pub notices_alike : (a b : MasterNotes) (notices : List Waiting) → AskAlike a b → flat_map (noticed_by a) notices ≡ flat_map (noticed_by b) notices
notices_alike a b [] alike = refl
notices_alike a b (notice ∷ notices) alike =
    ap (λ ws. ws ++ flat_map (noticed_by a) notices) (noticed_alike a b notice alike)
    ∙ ap (λ ws. noticed_by b notice ++ ws) (notices_alike a b notices alike)

-- the notes to a master are those that it was to get, once some of its notes were taken out or wait
pub notes_alike : (news : News) (k : ℕ) (a b : MasterNotes) → AskAlike a b → notes_to news k a ≡ notes_to news k b
notes_alike news k a b alike = ap (λ ws. flat_map (acknowledged_to k) news.ended ++ ws) (notices_alike a b news.notices alike)
