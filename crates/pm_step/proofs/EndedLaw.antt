-- The requests that end in a step follow from what is logged of the modes along it, and what is told from these.
use Rattle.std.proofs.Common.{◌≡◌, ℕ, ◌+◌, ◌<◌, List, [], ◌∷◌, ◌++◌, length, Option, refl, ap, ◌∙◌, arith}
use Rattle.pm_base.specs.declared.events.Event.{Event}
use Rattle.pm_base.specs.declared.names.NodeId.{NodeId}
use Rattle.pm_base.specs.declared.names.Mode.{Mode}
use Rattle.pm_notify.specs.declared.notes.Waiting.{Waiting}
use Rattle.pm_notify.specs.MasterNotes.{MasterNotes}
use Rattle.pm_notify.specs.Notify.{notes_for}
use Rattle.pm_object.specs.declared.object.MasterRec.{MasterRec}
use Rattle.pm_procs.specs.declared.pending.Pending.{Pending}
use Rattle.pm_tell.specs.declared.ended.Ended.{Ended}
use Rattle.pm_values.specs.declared.turns.Turns.{Turns}
use Rattle.pm_calls.specs.declared.verdict.Asked.{Asked}
use Rattle.pm_tell.specs.declared.served.Served.{Served}
use Rattle.pm_tell.specs.declared.telling.Telling.{Telling}
use Rattle.pm_tell.specs.Callbacks.{News, called_back, callbacks, callbacks_from, note_changes_at, note_changes_from}
use Rattle.pm_tell.specs.Ended.{ended_at, ended_from}
use Rattle.pm_values.specs.Turns.{turns_along}
use Rattle.pm_tell.specs.Served.{kept_of, says_in}
use Rattle.pm_state.specs.Members.{mode_of_master}
use Rattle.pm_values.specs.Along.{Trail, IsTrail, mode_logged, modes_of, turns_logged}
use Rattle.pm_state.specs.Prims.{Prim, applies, changed}
use Rattle.pm_state.specs.Stages.{after_stage, after_stages, follow, last_of, path_from}
use Rattle.pm_state.specs.State.{Fixed, Now, State}
use Rattle.pm_step.specs.Step.{effect, ended, forgets, modes_in, news, notices, opening, path, says, served, stages, talk, time_of}
use Rattle.pm_tell.specs.Telling.{notes_after, tellings, news_in, opening_in, turns_in}
use Rattle.pm_state.specs.Talk.{Talk, talked}
use Rattle.pm_tell.specs.Opening.{forget_at, forgets_from, talk_of}
use Rattle.pm_calls.specs.Verdict.{aborted_by, asked_by}
use Rattle.pm_values.proofs.AlongLaw.{mode_is}

-- ---- the stages leave what the masters are told

applies_talk : (fixed : Fixed) (prims : List Prim) (now : Now) → (applies fixed prims now).talk ≡ now.talk
applies_talk fixed [] now = refl
applies_talk fixed (prim ∷ prims) now = applies_talk fixed prims _

stage_talk : (stage : List Prim) (book : State) → (after_stage stage book).now.talk ≡ book.now.talk
stage_talk stage book =
    applies_talk book.fixed (follow (changed stage book)) (changed stage book).now ∙ applies_talk book.fixed stage book.now

path_talk : (stages : List (List Prim)) (book : State) → (last_of book (path_from stages book)).now.talk ≡ book.now.talk
path_talk [] book = refl
path_talk (stage ∷ stages) book = path_talk stages (after_stage stage book) ∙ stage_talk stage book

pub stages_talk : (stages : List (List Prim)) (book : State) → (after_stages stages book).now.talk ≡ book.now.talk
stages_talk stages book = path_talk stages book

-- ---- the ends

ended_alike : (f g : ℕ → Turns) (aborts count : Option ℕ) (m : ℕ) (pending : List (Option Pending)) → ((k : ℕ) → k < m + length pending → f k ≡ g k) → ended_from f aborts count m pending ≡ ended_from g aborts count m pending
ended_alike f g aborts count m [] alike = refl
ended_alike f g aborts count m (request ∷ pending) alike =
    ap (λ turns. ended_at turns aborts count m request ++ ended_from f aborts count (m + 1) pending) (alike m (omega arith))
    ∙ ap (λ later. ended_at (g m) aborts count m request ++ later) (ended_alike f g aborts count (m + 1) pending (λ k below. alike k (omega (arith, below))))

-- the requests that end in a step, by what was logged along it
pub ended_logged : (event : Event) (old new : State) (along : Trail) → new ≡ after_stages (stages event old) old → IsTrail old (path event old) along → length old.now.talk.pending ≡ length old.fixed.object.masters
    → ended_from (λ m. turns_logged m along.turns) (aborted_by (says event old)) (time_of event old) 0 new.now.talk.pending ≡ ended event old
ended_logged event old new along is trailed each =
    let turns : ℕ → Turns = λ m. turns_logged m along.turns in
    let talk : new.now.talk.pending ≡ old.now.talk.pending = ap (λ (b : State). b.now.talk.pending) is ∙ ap (λ t. t.pending) (stages_talk (stages event old) old) in
    ap (λ pending. ended_from turns (aborted_by (says event old)) (time_of event old) 0 pending) talk
    ∙ ended_alike turns (turns_along old (path event old)) (aborted_by (says event old)) (time_of event old) 0 old.now.talk.pending
    (λ k below. trailed.turns k (omega (arith, below, each)))

-- the masters that forget
forgets_alike : (f g : ℕ → Turns) (m : ℕ) (masters : List MasterRec) → ((k : ℕ) → k < m + length masters → f k ≡ g k) → forgets_from f m masters ≡ forgets_from g m masters
forgets_alike f g m [] alike = refl
forgets_alike f g m (x ∷ masters) alike =
    ap (λ turns. forget_at turns m ++ forgets_from f (m + 1) masters) (alike m (omega arith))
    ∙ ap (λ later. forget_at (g m) m ++ later) (forgets_alike f g (m + 1) masters (λ k below. alike k (omega (arith, below))))

forgets_logged : (event : Event) (old : State) (along : Trail) → IsTrail old (path event old) along
    → forgets_from (λ m. turns_logged m along.turns) 0 old.fixed.object.masters ≡ forgets event old
forgets_logged event old along trailed =
    forgets_alike (λ m. turns_logged m along.turns) (turns_along old (path event old)) 0 old.fixed.object.masters
    (λ k below. trailed.turns k (omega (arith, below)))

-- ---- what is told in a step

-- the masters are told the same where the modes before are the same
master_notes_alike : (news : News) (f g : ℕ → Mode) (notes : List MasterNotes) (after : State) (k : ℕ) (masters : List MasterRec) → ((j : ℕ) → j < k + length masters → f j ≡ g j) → note_changes_from news f notes after k masters ≡ note_changes_from news g notes after k masters
master_notes_alike news f g notes after k [] alike = refl
master_notes_alike news f g notes after k (x ∷ masters) alike =
    ap (λ was. note_changes_at news k was (mode_of_master after.fixed after.now.core k) (notes_for k notes) ++ note_changes_from news f notes after (k + 1) masters) (alike k (omega arith))
    ∙ ap (λ later. note_changes_at news k (g k) (mode_of_master after.fixed after.now.core k) (notes_for k notes) ++ later)
    (master_notes_alike news f g notes after (k + 1) masters (λ j below. alike j (omega (arith, below))))

callbacks_alike : (news : News) (f g : ℕ → Mode) (notes : List MasterNotes) (after : State) (k : ℕ) (masters : List MasterRec) → ((j : ℕ) → j < k + length masters → f j ≡ g j) → callbacks_from news f notes after k masters ≡ callbacks_from news g notes after k masters
callbacks_alike news f g notes after k [] alike = refl
callbacks_alike news f g notes after k (x ∷ masters) alike =
    let node : NodeId = record { 0 = x.node } in
    ap (λ was. called_back news k node was (mode_of_master after.fixed after.now.core k) (notes_for k notes) after ++ callbacks_from news f notes after (k + 1) masters) (alike k (omega arith))
    ∙ ap (λ later. called_back news k node (g k) (mode_of_master after.fixed after.now.core k) (notes_for k notes) after ++ later)
    (callbacks_alike news f g notes after (k + 1) masters (λ j below. alike j (omega (arith, below))))

was_logged : (book : State) (modes : List Mode) → modes ≡ modes_of book → (k : ℕ) → k < 0 + length book.fixed.object.masters → mode_logged modes k ≡ modes_in book k
was_logged book modes are k below = ap (λ ms. mode_logged ms k) are ∙ mode_is book k (omega (arith, below))

-- what is kept of a step until the masters are told of it
pub record IsNoted (event : Event) (old mid : State) (of : Option Served) (count : Option ℕ) (telling : Telling) : Type 0 where
  pub mid_is : mid ≡ after_stages (stages event old) old
  pub served_is : of ≡ served event old
  pub count_is : count ≡ time_of event old
  pub modes_are : telling.modes.items ≡ modes_of old
  pub along_is : IsTrail old (path event old) telling.along
  pub asks_are : telling.asks ≡ asked_by (says_in of)
  pub ended_are : telling.ended.items ≡ ended_from (turns_in telling) (aborted_by (says_in of)) count 0 mid.now.talk.pending
  pub notices_are : telling.notices.items ≡ notices event old

abbrev news_of : Option Asked → List Ended → List Waiting → News
news_of asked ended notices = record { asked = asked; ended = ended; notices = notices }

module _ (event : Event) (old mid : State) (of : Option Served) (count : Option ℕ) (telling : Telling) (is : IsNoted event old mid of count telling) (each : length old.now.talk.pending ≡ length old.fixed.object.masters) where
  abbrev pub after : State
  after = after_stages (stages event old) old

  abbrev pub modes : List Mode
  modes = telling.modes.items

  -- what is done first, as it was logged
  abbrev pub first_logged : List Talk
  first_logged = opening_in telling (says_in of) count mid

  ended_is : telling.ended.items ≡ ended event old
  ended_is =
      is.ended_are
      ∙ (ap (λ a. ended_from (turns_in telling) a count 0 mid.now.talk.pending) (ap (λ x. aborted_by (says_in x)) is.served_is)
      ∙ (ap (λ n. ended_from (turns_in telling) (aborted_by (says event old)) n 0 mid.now.talk.pending) is.count_is
      ∙ ended_logged event old mid telling.along is.mid_is is.along_is each))

  asks_is : telling.asks ≡ asked_by (says event old)
  asks_is = is.asks_are ∙ ap (λ x. asked_by (says_in x)) is.served_is

  news_is : news_in telling ≡ news event old
  news_is =
      ap (λ a. news_of a telling.ended.items telling.notices.items) asks_is
      ∙ (ap (λ es. news_of (asked_by (says event old)) es telling.notices.items) ended_is
      ∙ ap (λ ns. news_of (asked_by (says event old)) (ended event old) ns) is.notices_are)

  first_is : first_logged ≡ opening event old
  first_is =
      ap (λ (b : State). opening_in telling (says_in of) count b) is.mid_is
      ∙ (ap (λ x. talk_of (says_in x) (forgets_from (turns_in telling) 0 old.fixed.object.masters) count telling.ended.items) is.served_is
      ∙ (ap (λ fs. talk_of (says event old) fs count telling.ended.items) (forgets_logged event old telling.along is.along_is)
      ∙ (ap (λ n. talk_of (says event old) (forgets event old) n telling.ended.items) is.count_is
      ∙ ap (λ es. talk_of (says event old) (forgets event old) (time_of event old) es) ended_is)))

  -- all that is told, as it was logged
  pub talk_is : tellings (news_in telling) (mode_logged modes) first_logged of mid ≡ talk event old
  talk_is =
      ap (λ n. tellings n (mode_logged modes) first_logged of mid) news_is
      ∙ (ap (λ first. tellings (news event old) (mode_logged modes) first of mid) first_is
      ∙ (ap (λ x. tellings (news event old) (mode_logged modes) (opening event old) x mid) is.served_is
      ∙ (ap (λ (b : State). tellings (news event old) (mode_logged modes) (opening event old) (served event old) b) is.mid_is
      ∙ ap (λ told. opening event old ++ (told ++ kept_of (served event old) after))
      (master_notes_alike (news event old) (mode_logged modes) (modes_in old) (notes_after (opening event old) after) after 0 old.fixed.object.masters (was_logged old modes is.modes_are)))))

  pub book_is : (new : State) → new ≡ talked (tellings (news_in telling) (mode_logged modes) first_logged of mid) mid → new ≡ effect event old
  book_is new new_is =
      new_is ∙ (ap (λ told. talked told mid) talk_is ∙ ap (λ b. talked (talk event old) b) is.mid_is)

  -- the callbacks, as they were logged
  pub callbacks_are : (new : State) → new ≡ effect event old → callbacks (news_in telling) (mode_logged modes) (notes_after first_logged mid) new ≡ callbacks (news event old) (modes_in old) (notes_after (opening event old) after) (effect event old)
  callbacks_are new new_is =
      ap (λ n. callbacks n (mode_logged modes) (notes_after first_logged mid) new) news_is
      ∙ (ap (λ first. callbacks (news event old) (mode_logged modes) (notes_after first mid) new) first_is
      ∙ (ap (λ b. callbacks (news event old) (mode_logged modes) (notes_after (opening event old) b) new) is.mid_is
      ∙ (ap (λ b. callbacks (news event old) (mode_logged modes) (notes_after (opening event old) after) b) new_is
      ∙ callbacks_alike (news event old) (mode_logged modes) (modes_in old) (notes_after (opening event old) after) (effect event old) 0 old.fixed.object.masters (was_logged old modes is.modes_are))))

-- the requests that end, the book after a step and the callbacks of it, as they were logged
pub record IsTold (event : Event) (old mid new : State) (of : Option Served) (count : Option ℕ) (telling : Telling) : Type 0 where
  pub ended : telling.ended.items ≡ ended event old
  pub book : new ≡ effect event old
  pub callbacks : callbacks (news_in telling) (mode_logged telling.modes.items) (notes_after (opening_in telling (says_in of) count mid) mid) new
      ≡ callbacks (news event old) (modes_in old) (notes_after (opening event old) (after_stages (stages event old) old)) (effect event old)

pub step_told : (event : Event) (old mid new : State) (of : Option Served) (count : Option ℕ) (telling : Telling) → IsNoted event old mid of count telling → length old.now.talk.pending ≡ length old.fixed.object.masters
    → new ≡ talked (tellings (news_in telling) (mode_logged telling.modes.items) (opening_in telling (says_in of) count mid) of mid) mid
    → IsTold event old mid new of count telling
step_told event old mid new of count telling is each new_is =
    let book : new ≡ effect event old = book_is event old mid of count telling is each new new_is in
    record {
      ended = ended_is event old mid of count telling is each;
      book = book;
      callbacks = callbacks_are event old mid of count telling is each new book;
    }
