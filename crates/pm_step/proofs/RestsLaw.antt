-- An event that leaves the book as it is, and of which nobody is told. No request ends, and nothing is told to any master.
use Rattle.std.proofs.Common.{◌≡◌, ℕ, ◌+◌, List, [], ◌∷◌, ◌++◌, Option, None, refl, ap, ◌∙◌}
use Rattle.pm_base.specs.declared.events.Event.{Event}
use Rattle.pm_base.specs.declared.names.Mode.{Mode}
use Rattle.pm_base.specs.declared.names.Mode.TheVariants.{Off, Active, Asleep, Suspending}
use Rattle.pm_notify.specs.declared.notes.Waiting.{Waiting}
use Rattle.pm_notify.specs.MasterNotes.{MasterNotes}
use Rattle.pm_notify.specs.Notify.{notes_for}
use Rattle.pm_object.specs.declared.object.MasterRec.{MasterRec}
use Rattle.pm_calls.specs.declared.verdict.Asked.{Asked}
use Rattle.pm_calls.specs.Verdict.{aborted_by, asked_by}
use Rattle.pm_tell.specs.declared.ended.Ended.{Ended}
use Rattle.pm_tell.specs.declared.served.Served.{Served}
use Rattle.pm_tell.specs.Callbacks.{News, no_news, note_changes_at, note_changes_from}
use Rattle.pm_tell.specs.Ended.{ended_from}
use Rattle.pm_tell.specs.Opening.{talk_of}
use Rattle.pm_tell.specs.Served.{kept_of}
use Rattle.pm_tell.specs.Telling.{tellings}
use Rattle.pm_tell.proofs.StillLaw.{none_end, none_forgets}
use Rattle.pm_values.specs.declared.turns.Turns.{Turns}
use Rattle.pm_values.specs.Along.{no_turns}
use Rattle.pm_values.specs.Notifications.{notifications}
use Rattle.pm_values.specs.Turns.{turns_along}
use Rattle.pm_values.proofs.RestLaw.{none_among}
use Rattle.pm_state.specs.Stages.{after_stages, path_from}
use Rattle.pm_state.specs.State.{State}
use Rattle.pm_state.specs.Talk.{talked}
use Rattle.pm_state.specs.Units.{units}
use Rattle.pm_step.specs.Step.{effect, ended, forgets, modes_in, news, notices, opening, path, says, served, stages, time_of}

-- nothing comes of an event: it has no stage, and nobody is told of it
pub record Rests (event : Event) (book : State) : Type 0 where
  pub stages : stages event book ≡ []
  pub says : says event book ≡ None
  pub kept : kept_of (served event book) book ≡ []
  pub time : time_of event book ≡ None

-- the book and the modes stay
after_none : (event : Event) (book : State) → Rests event book → after_stages (stages event book) book ≡ book
after_none event book rest = ap (λ steps. after_stages steps book) rest.stages

turns_none : (event : Event) (book : State) → Rests event book → (m : ℕ) → turns_along book (path event book) m ≡ no_turns
turns_none event book rest m = ap (λ steps. turns_along book (path_from steps book) m) rest.stages

-- ---- what is told

-- where there is nothing to tell and no mode changes, no notes change
none_to : (k : ℕ) (mode : Mode) (notes : MasterNotes) → note_changes_at no_news k mode mode notes ≡ []
none_to k Off notes = refl
none_to k Active notes = refl
none_to k Asleep notes = refl
none_to k Suspending notes = refl

none_changed : (book : State) (notes : List MasterNotes) (k : ℕ) (masters : List MasterRec) → note_changes_from no_news (modes_in book) notes book k masters ≡ []
none_changed book notes k [] = refl
none_changed book notes k (master ∷ masters) =
    ap (λ changes. changes ++ note_changes_from no_news (modes_in book) notes book (k + 1) masters) (none_to k (modes_in book k) (notes_for k notes))
    ∙ none_changed book notes (k + 1) masters

rests_ends : (event : Event) (book : State) → Rests event book → ended event book ≡ []
rests_ends event book rest =
    let turns : ℕ → Turns = turns_along book (path event book) in
    ap (λ said. ended_from turns (aborted_by said) (time_of event book) 0 book.now.talk.pending) rest.says
    ∙ (ap (λ time. ended_from turns None time 0 book.now.talk.pending) rest.time
    ∙ none_end turns (turns_none event book rest) 0 book.now.talk.pending)

rests_news : (event : Event) (book : State) → Rests event book → news event book ≡ no_news
rests_news event book rest =
    ap (λ said. news_of (asked_by said) (ended event book) (notices event book)) rest.says
    ∙ (ap (λ es. news_of None es (notices event book)) (rests_ends event book rest)
    ∙ ap (λ ns. news_of None [] ns) (ap (notifications book) (after_none event book rest) ∙ none_among book (units book)))
  where
    news_of : Option Asked → List Ended → List Waiting → News
    news_of asked ended noticed = record { asked = asked; ended = ended; notices = noticed }

rests_opens : (event : Event) (book : State) → Rests event book → opening event book ≡ []
rests_opens event book rest =
    ap (λ said. talk_of said (forgets event book) (time_of event book) (ended event book)) rest.says
    ∙ (ap (λ fs. talk_of None fs (time_of event book) (ended event book))
    (none_forgets (turns_along book (path event book)) (turns_none event book rest) 0 book.fixed.object.masters)
    ∙ (ap (λ time. talk_of None [] time (ended event book)) rest.time
    ∙ ap (λ es. talk_of None [] None es) (rests_ends event book rest)))

-- the book stays
pub rests_stays : (event : Event) (book : State) → Rests event book → effect event book ≡ book
rests_stays event book rest =
    let of : Option Served = served event book in
    let after : State = after_stages (stages event book) book in
    ap (λ n. talked (tellings n (modes_in book) (opening event book) of after) after) (rests_news event book rest)
    ∙ (ap (λ first. talked (tellings no_news (modes_in book) first of after) after) (rests_opens event book rest)
    ∙ (ap (λ (b : State). talked (tellings no_news (modes_in book) [] of b) b) (after_none event book rest)
    ∙ ap (λ told. talked told book)
    (ap (λ ms. ms ++ kept_of of book) (none_changed book book.now.talk.notes 0 book.fixed.object.masters) ∙ rest.kept)))
