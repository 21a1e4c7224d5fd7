-- The callbacks to masters beyond are the same in two books that agree, but for those about nodes within.
use Rattle.std.proofs.Common.{◌≡◌, ℕ, ◌+◌, Bool, true, false, not, ◌&&◌, ◌==◌, cond, if◌then◌else◌, List, [], ◌∷◌, ◌++◌, Option, Some, None, refl, sym, ◌∙◌, ap, subst}
use Rattle.std.specs.Prelude.{filter, map}
use Rattle.std.proofs.lemmas.Bool.{eqb-true}
use Rattle.std.proofs.lemmas.List.Elements.{filter-append}
use Rattle.pm_laws.proofs.Common.{Agree, BelowLaws, Border, Both, BothFrom, Event, Fixed, IsBeyond, IsClosed, IsObject, IsSound, KnowsModes, MasterRec, Mode, NodeId, Now, Object, Off, Same, SameEntry, SameMasterNotes, State, asks_beyond, effect, is_about_beyond, is_awake, is_hidden, is_within, mode_of_master, modes_in, news, notes_after, notes_beyond, opening, outputs, configured_place, point}
use Rattle.pm_notify.specs.declared.notes.Note.{Note}
use Rattle.pm_notify.specs.declared.notes.Note.TheVariants.{Ack}
use Rattle.pm_notify.specs.declared.notes.Waiting.{Waiting}
use Rattle.pm_notify.specs.MasterNotes.{MasterNotes}
use Rattle.pm_notify.specs.Notify.{notes_for}
use Rattle.pm_calls.specs.declared.verdict.Asked.{Asked}
use Rattle.pm_tell.specs.declared.callbacks.Callback.{Callback}
use Rattle.pm_tell.specs.Callbacks.{News, asks_to, callback_by, callback_of, called_back, callbacks_from, init_suspend, notes_to, told_at_wake, told_to}
use Rattle.pm_laws.specs.Callbacks.{callbacks_beyond, is_callback_beyond}
use Rattle.pm_laws.proofs.AgreeLaw.{agree_self, same_sym}
use Rattle.pm_laws.proofs.CallsAlike.{book_of}
use Rattle.pm_laws.proofs.HiddenLemmas.{within_by}
use Rattle.pm_laws.proofs.EventsLaw.{hidden_fixed}
use Rattle.pm_laws.proofs.FollowLaw.{mode_alike}
use Rattle.pm_laws.proofs.CalledAlike.{point_alike}
use Rattle.pm_laws.proofs.MasterNotesFacts.{master_notes_same}
use Rattle.pm_laws.proofs.NoteChangesLaw.{NewsAlike, no_news, notes_alike, wakes_alike}
use Rattle.pm_laws.proofs.Places.{StandsFrom, stands_first, stands_from_start, stands_later}
use Rattle.pm_grants.proofs.GrantsLaw.{own_place}
use Rattle.pm_laws.proofs.StepLaw.{effect_alike, effect_hidden}
use Rattle.pm_laws.proofs.TellingsLaw.{after_alike, found_alike, found_hidden, later, news_alike, news_hidden}

-- ---- lists

-- mapped elements pass a test if the elements pass another one
filter_map : {X Y : Type 0} (test : Y → Bool) (p : X → Bool) (f : X → Y) → ((x : X) → test (f x) ≡ p x) → (xs : List X)
    → filter test (map f xs) ≡ map f (filter p xs)
filter_map test p f same [] = refl
filter_map {X} {Y} test p f same (x ∷ xs) =
    ap (λ b. cond b (f x ∷ filter test (map f xs)) (filter test (map f xs))) (same x) ∙ at (p x) (filter_map test p f same xs)
  where
    at : (b : Bool) → filter test (map f xs) ≡ map f (filter p xs)
        → cond b (f x ∷ filter test (map f xs)) (filter test (map f xs)) ≡ map f (cond b (x ∷ filter p xs) (filter p xs))
    at true later = ap (λ ys. f x ∷ ys) later
    at false later = later

-- the mapped elements that pass are equal for two functions that agree on the passing elements
map_filter : {X Y : Type 0} (p : X → Bool) (f g : X → Y) → ((x : X) → p x ≡ true → f x ≡ g x) → (xs : List X) → map f (filter p xs) ≡ map g (filter p xs)
map_filter p f g same [] = refl
map_filter {X} {Y} p f g same (x ∷ xs) = at (p x) refl (map_filter p f g same xs)
  where
    at : (b : Bool) → p x ≡ b → map f (filter p xs) ≡ map g (filter p xs)
        → map f (cond b (x ∷ filter p xs) (filter p xs)) ≡ map g (cond b (x ∷ filter p xs) (filter p xs))
    at true is later = ap (λ y. y ∷ map f (filter p xs)) (same x is) ∙ ap (λ ys. g x ∷ ys) later
    at false is later = later

none_pass : {X Y : Type 0} (test : Y → Bool) (f : X → Y) → ((x : X) → test (f x) ≡ false) → (xs : List X) → filter test (map f xs) ≡ []
none_pass test f fails [] = refl
none_pass test f fails (x ∷ xs) = ap (λ b. cond b (f x ∷ filter test (map f xs)) (filter test (map f xs))) (fails x) ∙ none_pass test f fails xs

twice : (b : Bool) → not (not b) ≡ b
twice true = refl
twice false = refl

module _ (object : Object) (border : Border) where
  abbrev test : Callback → Bool
  test call = is_callback_beyond object border call

  beyond_append : (a b c d : List Callback) → callbacks_beyond object border a ≡ callbacks_beyond object border c → callbacks_beyond object border b ≡ callbacks_beyond object border d
      → callbacks_beyond object border (a ++ b) ≡ callbacks_beyond object border (c ++ d)
  beyond_append a b c d first second =
      filter-append test a b
      ∙ (ap (λ calls. calls ++ callbacks_beyond object border b) first
      ∙ (ap (λ calls. callbacks_beyond object border c ++ calls) second ∙ sym (filter-append test c d)))

  module _ (k : ℕ) (master : NodeId) (place : configured_place object master ≡ Some k) where
    -- ---- one callback to the master at place k

    note_test : (node : NodeId) (now : ℕ) (note : Note) → test (callback_by master node now note) ≡ (border.master k && border.node node.0)
    note_test node now (Ack status) = ap (λ at. not (is_within border at) && border.node node.0) place ∙ ap (λ b. b && border.node node.0) (twice (border.master k))
    note_test node now _ = ap (λ at. not (is_within border at) && border.node node.0) place ∙ ap (λ b. b && border.node node.0) (twice (border.master k))

    all : (b : Bool) → (b && true) ≡ b
    all true = refl
    all false = refl

    asked_test : (asked : Asked) → test (init_suspend master asked) ≡ border.master k
    asked_test asked = ap (λ at. not (is_within border at) && true) place ∙ (ap (λ b. b && true) (twice (border.master k)) ∙ all (border.master k))

    -- ---- a master within

    asks_within : (asked : Option Asked) → border.master k ≡ false → callbacks_beyond object border (asks_to k master asked) ≡ []
    asks_within None within = refl
    asks_within (Some asked) within = at (asked.target == k)
      where
        at : (own : Bool) → callbacks_beyond object border (if own then init_suspend master asked ∷ [] else []) ≡ []
        at true = ap (λ b. cond b (init_suspend master asked ∷ []) []) (asked_test asked ∙ within)
        at false = refl

    notes_within : (after : State) (due : List Waiting) → border.master k ≡ false → callbacks_beyond object border (map (callback_of master after) due) ≡ []
    notes_within after due within =
        none_pass test (callback_of master after) (λ w. note_test w.node (point w.node after) w.note ∙ ap (λ b. b && border.node w.node.0) within) due

    called_within : (a : News) (was is : Mode) (notes : MasterNotes) (after : State) → border.master k ≡ false → callbacks_beyond object border (called_back a k master was is notes after) ≡ []
    called_within a was is notes after within = at (is_awake is)
      where
        at : (awake : Bool) → callbacks_beyond object border (if awake then told_to a k master was is notes after else []) ≡ []
        at true =
            beyond_append (map (callback_of master after) (told_at_wake was is notes)) (asks_to k master a.asked ++ map (callback_of master after) (notes_to a k notes)) [] []
            (notes_within after (told_at_wake was is notes) within)
            (beyond_append (asks_to k master a.asked) (map (callback_of master after) (notes_to a k notes)) [] []
            (asks_within a.asked within) (notes_within after (notes_to a k notes) within))
        at false = refl

    -- ---- a master beyond

    -- it is asked, if only masters beyond are asked so
    asked_alone : (asked : Option Asked) → IsBeyond border k → asks_to k master asked ≡ asks_to k master (asks_beyond border asked)
    asked_alone None beyond = refl
    asked_alone (Some asked) beyond = at (border.master asked.target) refl
      where
        at : (is : Bool) → border.master asked.target ≡ is → asks_to k master (Some asked) ≡ asks_to k master (if is then Some asked else None)
        at true is = refl
        at false is =
            ap (λ own. if own then init_suspend master asked ∷ [] else [])
            (within_by (asked.target == k) (border.master asked.target) (λ same. ap border.master (eqb-true asked.target k same) ∙ beyond) is)

    notes_called_back : (first second : State) (ns os : List Waiting) → IsBeyond border k → ((node : NodeId) → border.node node.0 ≡ true → point node first ≡ point node second)
        → notes_beyond border ns ≡ notes_beyond border os
        → callbacks_beyond object border (map (callback_of master first) ns) ≡ callbacks_beyond object border (map (callback_of master second) os)
    notes_called_back first second ns os beyond points same =
        filter_map test (is_about_beyond border) (callback_of master first)
        (λ w. note_test w.node (point w.node first) w.note ∙ ap (λ b. b && border.node w.node.0) beyond) ns
        ∙ (ap (map (callback_of master first)) same
        ∙ (map_filter (is_about_beyond border) (callback_of master first) (callback_of master second)
        (λ w told. ap (λ now. callback_by master w.node now w.note) (points w.node told)) os
        ∙ sym (filter_map test (is_about_beyond border) (callback_of master second)
        (λ w. note_test w.node (point w.node second) w.note ∙ ap (λ b. b && border.node w.node.0) beyond) os)))

    called_alike : (a b : News) (was is : Mode) (x y : MasterNotes) (first second : State) → IsBeyond border k → NewsAlike border a b → Both (SameEntry border) x y
        → ((node : NodeId) → border.node node.0 ≡ true → point node first ≡ point node second)
        → callbacks_beyond object border (called_back a k master was is x first) ≡ callbacks_beyond object border (called_back b k master was is y second)
    called_alike a b was is x y first second beyond news notes points = at (is_awake is)
      where
        at : (awake : Bool)
            → callbacks_beyond object border (if awake then told_to a k master was is x first else [])
            ≡ callbacks_beyond object border (if awake then told_to b k master was is y second else [])
        at true =
            beyond_append (map (callback_of master first) (told_at_wake was is x)) (asks_to k master a.asked ++ map (callback_of master first) (notes_to a k x))
            (map (callback_of master second) (told_at_wake was is y)) (asks_to k master b.asked ++ map (callback_of master second) (notes_to b k y))
            (notes_called_back first second (told_at_wake was is x) (told_at_wake was is y) beyond points (wakes_alike border was is x y notes))
            (beyond_append (asks_to k master a.asked) (map (callback_of master first) (notes_to a k x)) (asks_to k master b.asked) (map (callback_of master second) (notes_to b k y))
            (ap (callbacks_beyond object border)
            (asked_alone a.asked beyond ∙ (ap (asks_to k master) news.asked ∙ sym (asked_alone b.asked beyond))))
            (notes_called_back first second (notes_to a k x) (notes_to b k y) beyond points (notes_alike border a b k x y news notes)))
        at false = refl

-- ---- all masters

module _ (object : Object) (formed : IsObject object) (border : Border) (a b : News) (news : (k : ℕ) → IsBeyond border k → NewsAlike border a b)
    (was were : ℕ → Mode) (first second : State) (xs ys : List MasterNotes)
    (before : (k : ℕ) → IsBeyond border k → was k ≡ were k)
    (now : (k : ℕ) → IsBeyond border k → mode_of_master first.fixed first.now.core k ≡ mode_of_master second.fixed second.now.core k)
    (notes : BothFrom (SameMasterNotes border) 0 xs ys)
    (points : (node : NodeId) → border.node node.0 ≡ true → point node first ≡ point node second) where
  abbrev mode_first : ℕ → Mode
  mode_first k = mode_of_master first.fixed first.now.core k

  abbrev mode_second : ℕ → Mode
  mode_second k = mode_of_master second.fixed second.now.core k

  at_alike : (k : ℕ) (master : NodeId) (is : Bool) → configured_place object master ≡ Some k → border.master k ≡ is
      → callbacks_beyond object border (called_back a k master (was k) (mode_first k) (notes_for k xs) first)
      ≡ callbacks_beyond object border (called_back b k master (were k) (mode_second k) (notes_for k ys) second)
  at_alike k master true place is =
      ap (λ mode. callbacks_beyond object border (called_back a k master mode (mode_first k) (notes_for k xs) first)) (before k is)
      ∙ (ap (λ mode. callbacks_beyond object border (called_back a k master (were k) mode (notes_for k xs) first)) (now k is)
      ∙ called_alike object border k master place a b (were k) (mode_second k) (notes_for k xs) (notes_for k ys) first second is (news k is) (master_notes_same border k xs ys is notes).each points)
  at_alike k master false place is =
      called_within object border k master place a (was k) (mode_first k) (notes_for k xs) first is
      ∙ sym (called_within object border k master place b (were k) (mode_second k) (notes_for k ys) second is)

  callbacks_alike : (k : ℕ) (masters : List MasterRec) → StandsFrom object.masters k masters
      → callbacks_beyond object border (callbacks_from a was xs first k masters) ≡ callbacks_beyond object border (callbacks_from b were ys second k masters)
  callbacks_alike k [] stands = refl
  callbacks_alike k (master ∷ masters) stands =
      beyond_append object border (called_back a k (record { 0 = master.node }) (was k) (mode_first k) (notes_for k xs) first) (callbacks_from a was xs first (k + 1) masters)
      (called_back b k (record { 0 = master.node }) (were k) (mode_second k) (notes_for k ys) second) (callbacks_from b were ys second (k + 1) masters)
      (at_alike k (record { 0 = master.node }) (border.master k) (own_place object k master formed (stands_first object.masters k master masters stands)) refl)
      (callbacks_alike (k + 1) masters (stands_later object.masters k master masters stands))

-- ---- where nothing is told and no mode changes

rests_at : (k : ℕ) (master : NodeId) (mode : Mode) (x : MasterNotes) (after : State) → called_back no_news k master mode mode x after ≡ []
rests_at k master Off x after = refl
rests_at k master _ x after = refl

callbacks_rest : (xs : List MasterNotes) (still : State) (k : ℕ) (masters : List MasterRec)
    → callbacks_from no_news (mode_of_master still.fixed still.now.core) xs still k masters ≡ []
callbacks_rest xs still k [] = refl
callbacks_rest xs still k (master ∷ masters) =
    ap (λ calls. calls ++ callbacks_from no_news (mode_of_master still.fixed still.now.core) xs still (k + 1) masters)
    (rests_at k (record { 0 = master.node }) (mode_of_master still.fixed still.now.core k) (notes_for k xs) still)
    ∙ callbacks_rest xs still (k + 1) masters

-- ---- events

module _ (laws : BelowLaws) (border : Border) (event : Event) (fixed : Fixed) (closed : IsClosed fixed border) (formed : IsObject fixed.object) where
  abbrev Calls : Now → List Callback
  Calls now = callbacks_beyond fixed.object border (outputs event (book_of fixed now)).callbacks

  alike : (a b : Now) → IsSound (book_of fixed a) → IsSound (book_of fixed b) → is_hidden border event (book_of fixed a) ≡ false → Same fixed border a b → Calls a ≡ Calls b
  alike a b sound_a sound_b is same =
      let first : State = book_of fixed a in
      let second : State = book_of fixed b in
      let after = after_alike laws border event fixed closed a b sound_a is same in
      let ends : Same fixed border (effect event first).now (effect event second).now = (effect_alike laws fixed border closed event a b sound_a sound_b is same).now in
      callbacks_alike fixed.object formed border (news event first) (news event second)
      (λ k beyond. news_alike laws border event fixed closed a b (closed.some k beyond) sound_a sound_b is same after)
      (modes_in first) (modes_in second) (effect event first) (effect event second)
      (notes_after (opening event first) (later event fixed a)) (notes_after (opening event second) (later event fixed b))
      (λ k beyond. mode_alike laws fixed border k a b beyond same)
      (λ k beyond. mode_alike laws fixed border k (effect event first).now (effect event second).now beyond ends)
      (found_alike laws border event fixed closed a b sound_a is same after)
      (λ node told. point_alike fixed border closed (effect event first).now (effect event second).now ends node told)
      0 fixed.object.masters (stands_from_start fixed.object.masters)

  -- a hidden event makes none
  hidden : (still now : Now) → IsSound (book_of fixed now) → KnowsModes (book_of fixed still) → is_hidden border event (book_of fixed now) ≡ true → Same fixed border still now
      → Calls now ≡ []
  hidden still now sound knows is same =
      let first : State = book_of fixed now in
      let second : State = book_of fixed still in
      let ends : Same fixed border (effect event first).now still =
      same_sym fixed border still (effect event first).now (effect_hidden laws fixed border closed event still now sound knows is same).now
      in
      callbacks_alike fixed.object formed border (news event first) no_news
      (λ k beyond. news_hidden laws border event fixed closed still now (closed.some k beyond) sound knows is same)
      (modes_in first) (modes_in second) (effect event first) second
      (notes_after (opening event first) (later event fixed now)) still.talk.notes
      (λ k beyond. sym (mode_alike laws fixed border k still now beyond same))
      (λ k beyond. mode_alike laws fixed border k (effect event first).now still beyond ends)
      (found_hidden laws border event fixed closed still now knows is same)
      (λ node told. point_alike fixed border closed (effect event first).now still ends node told)
      0 fixed.object.masters (stands_from_start fixed.object.masters)
      ∙ ap (callbacks_beyond fixed.object border) (callbacks_rest still.talk.notes second 0 fixed.object.masters)

  by_shape : (a b : Now) (shape : Bool) → is_hidden border event (book_of fixed a) ≡ shape → IsSound (book_of fixed a) → IsSound (book_of fixed b) → Same fixed border a b → Calls a ≡ Calls b
  by_shape a b false is sound_a sound_b same = alike a b sound_a sound_b is same
  by_shape a b true is sound_a sound_b same =
      hidden b a sound_a sound_b.knows is (same_sym fixed border a b same)
      ∙ sym (hidden a b sound_b sound_a.knows (sym (hidden_fixed fixed border event a b) ∙ is) same)

-- the same callbacks are made in both
pub callbacks_agree : BelowLaws → (border : Border) (event : Event) (a b : State) → IsObject a.fixed.object → IsClosed a.fixed border
    → IsSound a → IsSound b → Agree border a b
    → callbacks_beyond a.fixed.object border (outputs event a).callbacks ≡ callbacks_beyond a.fixed.object border (outputs event b).callbacks
callbacks_agree laws border event a b formed closed sound_a sound_b agree =
    let P : Fixed → Type 0 = λ fixed. IsSound (book_of fixed b.now)
    → callbacks_beyond a.fixed.object border (outputs event a).callbacks ≡ callbacks_beyond a.fixed.object border (outputs event (book_of fixed b.now)).callbacks
    in
    subst P agree.fixed (λ sound. by_shape laws border event a.fixed closed formed a.now b.now (is_hidden border event a) refl sound_a sound agree.now) sound_b

-- and a hidden event makes none
pub callbacks_hidden : BelowLaws → (border : Border) (event : Event) (book : State) → IsObject book.fixed.object → IsClosed book.fixed border
    → IsSound book → is_hidden border event book ≡ true
    → callbacks_beyond book.fixed.object border (outputs event book).callbacks ≡ []
callbacks_hidden laws border event book formed closed sound is =
    hidden laws border event book.fixed closed formed book.now book.now sound sound.knows is (agree_self laws.units border book closed sound).now
