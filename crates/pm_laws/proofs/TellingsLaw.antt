-- All that is told in a step: of a hidden event nothing is seen of it, and of any other the same in two books that agree.
use Rattle.std.proofs.Common.{◌≡◌, ℕ, Bool, true, false, not, ◌||◌, if◌then◌else◌, List, [], ◌++◌, Option, Some, None, refl, sym, ◌∙◌, ap}
use Rattle.std.specs.Prelude.{flat_map, map, option_and_then}
use Rattle.pm_laws.proofs.Common.{Active, Agree, Asleep, BelowLaws, Border, BothFrom, Called, Event, Fixed, HasSome, Ipi, IsBeyond, IsClosed, IsSound, IsTalkUnseen, KnowsModes, Mode, NodeId, Now, Off, Same, SameMasterNotes, State, Suspending, aborted_by, asked_by, asks_beyond, called, changes_within, ended, ends_beyond, call_at, is_awake, may_call, is_hidden, is_within, master_place, mode_of_master, modes_in, news, notes_after, notes_beyond, opening, path, response_of, same_mode, says, served, stages, talk, talk_part, time_of, verdict, verdict_of}
use Rattle.pm_base.proofs.Booleans.{both, neither}
use Rattle.pm_ipi.specs.declared.calls.AckKind.TheVariants.{Blocking}
use Rattle.pm_ipi.specs.declared.calls.Call.{Call}
use Rattle.pm_ipi.specs.Calls.{ack_of, call_of, node_of}
use Rattle.pm_notify.specs.declared.notes.Waiting.{Waiting}
use Rattle.pm_ipi.specs.declared.responses.Response.{Response}
use Rattle.pm_tell.specs.Callbacks.{acknowledged_to, note_changes, noticed_by}
use Rattle.pm_tell.specs.Served.{kept_at, kept_of, own_note}
use Rattle.pm_state.specs.Stages.{after_stages}
use Rattle.pm_state.specs.Talk.{Talk, wait_of}
use Rattle.pm_laws.proofs.AgreeLaw.{agree_sym, agree_trans, same_sym}
use Rattle.pm_laws.proofs.CallsAlike.{book_of, called_same, kept}
use Rattle.pm_laws.proofs.EndsLaw.{ended_alike, ended_hidden}
use Rattle.pm_laws.proofs.EventsLaw.{event_alike, event_hidden, some_beyond}
use Rattle.pm_laws.proofs.FollowLaw.{book_mode_alike, mode_alike}
use Rattle.pm_laws.proofs.NoteChangesLaw.{NewsAlike, master_notes_alike, note_changes_rest, no_news, waits_within}
use Rattle.pm_laws.proofs.NoticesLaw.{acks_beyond, ended_names, notices_alike, notices_rest}
use Rattle.pm_laws.proofs.MayCallLaw.{heard_same}
use Rattle.pm_laws.proofs.OpeningLaw.{opening_alike, opening_hidden, parts_alike}
use Rattle.pm_laws.proofs.PathLaw.{stages_alike, stages_hidden}
use Rattle.pm_calls.specs.calls.{shape_of}
use Rattle.pm_laws.proofs.ShapesLaw.{reader_replies, reads_within}
use Rattle.pm_laws.proofs.TalkFacts.{talks_alike}
use Rattle.pm_laws.proofs.VerdictsLaw.{event_within, none_asked, says_alike}

-- ---- what is kept for the sender of a message

-- a master that is awake isn't asleep
awake_not_asleep : (mode : Mode) → is_awake mode ≡ true → same_mode mode Asleep ≡ false
awake_not_asleep Off is = cc
awake_not_asleep Active is = refl
awake_not_asleep Asleep is = cc
awake_not_asleep Suspending is = refl

-- the notes of a call, if it is heard
abbrev notes_of : Call → Option Called → List Waiting
notes_of call heard = own_note (response_of (verdict heard)) (ack_of call) (node_of call)

-- they wait for its sender
abbrev pub kept_for : NodeId → Call → Option Called → State → List Talk
kept_for master call heard after = kept_at (master_place master after) (notes_of call heard) after

none_kept : (m : ℕ) (asleep : Bool) → (if asleep then map (wait_of m) [] else []) ≡ []
none_kept m true = refl
none_kept m false = refl

module _ (laws : BelowLaws) (border : Border) where
  keeps_within : (m : ℕ) (asleep : Bool) (due : List Waiting) → border.master m ≡ false → talk_part border (if asleep then map (wait_of m) due else []) ≡ []
  keeps_within m true due within = waits_within border m due within
  keeps_within m false due within = refl

  -- nothing is seen of it in a hidden event: its sender is within, or is awake before it and so after it
  at_hidden : (m : ℕ) (now after : State) (due : List Waiting) (is : Bool) → border.master m ≡ is → Agree border now after
      → is_awake (mode_of_master now.fixed now.now.core m) ≡ true
      → IsTalkUnseen border (kept_at (Some m) due after)
  at_hidden m now after due true is agree awake =
      let mode = book_mode_alike laws border m now after is agree in
      ap (λ asleep. talk_part border (if asleep then map (wait_of m) due else []))
      (awake_not_asleep (mode_of_master after.fixed after.now.core m) (ap is_awake (sym mode) ∙ awake))
  at_hidden m now after due false is agree awake =
      keeps_within m (same_mode (mode_of_master after.fixed after.now.core m) Asleep) due is

  heard_hidden : (master : NodeId) (call : Call) (m : ℕ) (now after : State) (heard : Bool)
      → may_call m now ≡ heard
      → master_place master after ≡ Some m → Agree border now after
      → IsTalkUnseen border (kept_for master call (if heard then Some (called m call now) else None) after)
  heard_hidden master call m now after false is place agree =
      ap (λ at. talk_part border (kept_at at [] after)) place
      ∙ ap (talk_part border) (none_kept m (same_mode (mode_of_master after.fixed after.now.core m) Asleep))
  heard_hidden master call m now after true is place agree =
      let due : List Waiting = notes_of call (Some (called m call now)) in
      ap (λ at. talk_part border (kept_at at due after)) place
      ∙ at_hidden m now after due (border.master m) refl agree (both (not now.now.core.halted) (is_awake (mode_of_master now.fixed now.now.core m)) is).1

  place_hidden : (master : NodeId) (call : Call) (now after : State) (place : Option ℕ) → master_place master after ≡ place → Agree border now after
      → IsTalkUnseen border (kept_for master call (option_and_then (call_at call now) place) after)
  place_hidden master call now after None is agree = ap (λ at. talk_part border (kept_at at [] after)) is
  place_hidden master call now after (Some m) is agree =
      heard_hidden master call m now after (may_call m now) refl is agree

  -- beside the book after the stages, which is of the same object
  pub kept_hidden : (event : Event) (now : State) → Agree border now (after_stages (stages event now) now)
      → IsTalkUnseen border (kept_of (served event now) (after_stages (stages event now) now))
  kept_hidden (Ipi master message) now agree =
      place_hidden master (call_of message) now (after_stages (stages (Ipi master message) now) now) (master_place master now) refl agree
  kept_hidden _ now agree = refl

  -- ---- the same in two books

  -- a call that is answered by a reply leaves no note
  quiet_note : (response : Option Response) (node : NodeId) → own_note response Blocking node ≡ []
  quiet_note None node = refl
  quiet_note (Some response) node = refl

  module _ (fixed : Fixed) (a b : Now) (same : Same fixed border a b) where
    abbrev first : State
    first = book_of fixed a

    abbrev second : State
    second = book_of fixed b

    -- the note of a call
    abbrev note : Call → Called → List Waiting
    note call x = own_note (response_of (verdict_of x)) (ack_of call) (node_of call)

    notes_same : (m : ℕ) (call : Call) → IsBeyond border m → border.some ≡ true → changes_within border call first ≡ false
        → note call (called m call first) ≡ note call (called m call second)
    notes_same m call beyond some plain = by (reads_within (shape_of call)) refl
      where
        by : (reads : Bool) → reads_within (shape_of call) ≡ reads → note call (called m call first) ≡ note call (called m call second)
        by false blind = ap (note call) (called_same laws fixed border m a b beyond same call blind plain)
        by true reads =
            ap (λ kind. own_note (response_of (verdict_of (called m call first))) kind (node_of call)) (reader_replies call reads)
            ∙ (quiet_note (response_of (verdict_of (called m call first))) (node_of call)
            ∙ (sym (quiet_note (response_of (verdict_of (called m call second))) (node_of call))
            ∙ sym (ap (λ kind. own_note (response_of (verdict_of (called m call second))) kind (node_of call)) (reader_replies call reads))))

    keeps_alike : (m : ℕ) (c d : Now) (ns os : List Waiting) → IsBeyond border m → Same fixed border c d → ns ≡ os
        → kept_at (Some m) ns (book_of fixed c) ≡ kept_at (Some m) os (book_of fixed d)
    keeps_alike m c d ns os beyond after due =
        ap (λ mode. if same_mode mode Asleep then map (wait_of m) ns else []) (mode_alike laws fixed border m c d beyond after)
        ∙ ap (λ list. if same_mode (mode_of_master fixed d.core m) Asleep then map (wait_of m) list else []) due

    heard_alike : (master : NodeId) (call : Call) (m : ℕ) (c d : Now) (x y : Bool) → x ≡ y
        → master_place master first ≡ Some m
        → kept_at (Some m) (notes_of call (Some (called m call first))) (book_of fixed c)
        ≡ kept_at (Some m) (notes_of call (Some (called m call second))) (book_of fixed d)
        → kept_for master call (if x then Some (called m call first) else None) (book_of fixed c)
        ≡ kept_for master call (if y then Some (called m call second) else None) (book_of fixed d)
    heard_alike master call m c d true true is place keeps =
        ap (λ at. kept_at at (notes_of call (Some (called m call first))) (book_of fixed c)) place
        ∙ (keeps ∙ sym (ap (λ at. kept_at at (notes_of call (Some (called m call second))) (book_of fixed d)) place))
    heard_alike master call m c d true false is place keeps = cc
    heard_alike master call m c d false true is place keeps = cc
    heard_alike master call m c d false false is place keeps =
        ap (λ at. kept_at at [] (book_of fixed c)) place
        ∙ (none_kept m (same_mode (mode_of_master fixed c.core m) Asleep)
        ∙ (sym (none_kept m (same_mode (mode_of_master fixed d.core m) Asleep))
        ∙ sym (ap (λ at. kept_at at [] (book_of fixed d)) place)))

    place_alike : (master : NodeId) (call : Call) (c d : Now) (place : Option ℕ) → master_place master first ≡ place → HasSome border
        → (is_within border place || changes_within border call first) ≡ false → Same fixed border c d
        → kept_for master call (option_and_then (call_at call first) place) (book_of fixed c) ≡ kept_for master call (option_and_then (call_at call second) place) (book_of fixed d)
    place_alike master call c d None at some is after = cc
    place_alike master call c d (Some m) at some is after =
        let parts = neither (not (border.master m)) (changes_within border call first) is in
        let beyond : IsBeyond border m = kept (border.master m) parts.0 in
        heard_alike master call m c d (may_call m first) (may_call m second) (heard_same laws fixed border m a b beyond same) at
        (keeps_alike m c d (notes_of call (Some (called m call first))) (notes_of call (Some (called m call second))) beyond after
        (notes_same m call beyond (some m beyond) parts.1))

    kept_alike : (event : Event) (c d : Now) → HasSome border → is_hidden border event first ≡ false → Same fixed border c d
        → kept_of (served event first) (book_of fixed c) ≡ kept_of (served event second) (book_of fixed d)
    kept_alike (Ipi master message) c d some is after = place_alike master (call_of message) c d (master_place master first) refl some is after
    kept_alike _ c d some is after = refl

-- ---- all that is told

-- the book after the stages
abbrev pub later : Event → Fixed → Now → State
later event fixed now = after_stages (stages event (book_of fixed now)) (book_of fixed now)

module _ (laws : BelowLaws) (border : Border) (event : Event) (fixed : Fixed) (closed : IsClosed fixed border) where
  -- the requests that end about nodes beyond are to masters beyond
  ended_acks : (now : Now) → IsSound (book_of fixed now) → (k : ℕ)
      → notes_beyond border (flat_map (acknowledged_to k) (ended event (book_of fixed now)))
      ≡ notes_beyond border (flat_map (acknowledged_to k) (ends_beyond border (ended event (book_of fixed now))))
  ended_acks now sound k =
      let book : State = book_of fixed now in
      acks_beyond border k (ended event book)
      (ended_names fixed border closed now.talk.pending sound.pending book (path event book) (aborted_by (says event book)) (time_of event book))

  -- ---- an event that does the same in both

  pub news_alike : (a b : Now) → border.some ≡ true → IsSound (book_of fixed a) → IsSound (book_of fixed b) → is_hidden border event (book_of fixed a) ≡ false
      → Same fixed border a b → Same fixed border (later event fixed a).now (later event fixed b).now → NewsAlike border (news event (book_of fixed a)) (news event (book_of fixed b))
  news_alike a b some sound_a sound_b is same after = record {
    asked = ap (λ x. asks_beyond border (asked_by x)) (says_alike laws fixed border a b same event is);
    acks = λ k. ended_acks a sound_a k
        ∙ (ap (λ es. notes_beyond border (flat_map (acknowledged_to k) es)) (ended_alike laws fixed border event a b sound_a.armed closed.some is same)
        ∙ sym (ended_acks b sound_b k));
    notices = λ x y notes. notices_alike fixed border closed some a b (later event fixed a).now (later event fixed b).now same after x y notes;
  }

  -- the notes that the masters find are alike
  pub found_alike : (a b : Now) → IsSound (book_of fixed a) → is_hidden border event (book_of fixed a) ≡ false
      → Same fixed border a b → Same fixed border (later event fixed a).now (later event fixed b).now
      → BothFrom (SameMasterNotes border) 0 (notes_after (opening event (book_of fixed a)) (later event fixed a)) (notes_after (opening event (book_of fixed b)) (later event fixed b))
  found_alike a b sound is same after =
      (talks_alike border closed.some (opening event (book_of fixed a)) (opening event (book_of fixed b)) (later event fixed a).now.talk (later event fixed b).now.talk
      (opening_alike laws border fixed event a b sound.armed closed.some is same) after.talk).notes

  pub after_alike : (a b : Now) → IsSound (book_of fixed a) → is_hidden border event (book_of fixed a) ≡ false → Same fixed border a b
      → Same fixed border (later event fixed a).now (later event fixed b).now
  after_alike a b sound is same =
      (stages_alike laws border (stages event (book_of fixed a)) (stages event (book_of fixed b)) (book_of fixed a) (book_of fixed b)
      (some_beyond border event (book_of fixed a) closed.some is)
      (event_alike laws fixed border event a b sound.armed closed.some is same) (record { fixed = refl; now = same })).now

  pub talk_alike : (a b : Now) → IsSound (book_of fixed a) → IsSound (book_of fixed b) → is_hidden border event (book_of fixed a) ≡ false → Same fixed border a b
      → talk_part border (talk event (book_of fixed a)) ≡ talk_part border (talk event (book_of fixed b))
  talk_alike a b sound_a sound_b is same =
      let first : State = book_of fixed a in
      let second : State = book_of fixed b in
      let after = after_alike a b sound_a is same in
      let xs = notes_after (opening event first) (later event fixed a) in
      let ys = notes_after (opening event second) (later event fixed b) in
      let noted_first = note_changes (news event first) (modes_in first) xs (later event fixed a) in
      let noted_second = note_changes (news event second) (modes_in second) ys (later event fixed b) in
      let kept_first = kept_of (served event first) (later event fixed a) in
      let kept_second = kept_of (served event second) (later event fixed b) in
      parts_alike border (opening event first) (noted_first ++ kept_first) (opening event second) (noted_second ++ kept_second)
      (opening_alike laws border fixed event a b sound_a.armed closed.some is same)
      (parts_alike border noted_first kept_first noted_second kept_second
      (master_notes_alike border (news event first) (news event second) (λ k beyond. news_alike a b (closed.some k beyond) sound_a sound_b is same after)
      (modes_in first) (modes_in second) (later event fixed a) (later event fixed b) xs ys
      (λ k beyond. mode_alike laws fixed border k a b beyond same)
      (λ k beyond. mode_alike laws fixed border k (later event fixed a).now (later event fixed b).now beyond after)
      (found_alike a b sound_a is same after) 0 fixed.object.masters)
      (ap (talk_part border) (kept_alike laws border fixed a b same event (later event fixed a).now (later event fixed b).now closed.some is after)))

  -- ---- a hidden event, beside a book that stays

  pub after_hidden : (still now : Now) → KnowsModes (book_of fixed still) → is_hidden border event (book_of fixed now) ≡ true → Same fixed border still now
      → Same fixed border still (later event fixed now).now
  after_hidden still now knows is same =
      (stages_hidden laws border (stages event (book_of fixed now)) (book_of fixed still) (book_of fixed now) knows
      (event_hidden laws.kinds border event (book_of fixed now) (record { closed = closed; force = same.second }) is) (record { fixed = refl; now = same })).now

  pub news_hidden : (still now : Now) → border.some ≡ true → IsSound (book_of fixed now) → KnowsModes (book_of fixed still) → is_hidden border event (book_of fixed now) ≡ true
      → Same fixed border still now → NewsAlike border (news event (book_of fixed now)) no_news
  news_hidden still now some sound knows is same =
      let first : State = book_of fixed now in
      let agree : Agree border (book_of fixed still) first = record { fixed = refl; now = same } in
      let before : Same fixed border now still = same_sym fixed border still now same in
      let after : Same fixed border (later event fixed now).now still = same_sym fixed border still (later event fixed now).now (after_hidden still now knows is same) in
      record {
        asked = none_asked border (says event first) (event_within border first event (record { closed = closed; force = same.second }) is);
        acks = λ k. ended_acks now sound k
            ∙ ap (λ es. notes_beyond border (flat_map (acknowledged_to k) es)) (ended_hidden laws border event (book_of fixed still) first (record { closed = closed; force = same.second }) knows is agree);
        notices = λ x y notes. notices_alike fixed border closed some now still (later event fixed now).now still before after x y notes
            ∙ ap (λ due. notes_beyond border (flat_map (noticed_by y) due)) (notices_rest fixed border closed some still);
      }

  pub found_hidden : (still now : Now) → KnowsModes (book_of fixed still) → is_hidden border event (book_of fixed now) ≡ true → Same fixed border still now
      → BothFrom (SameMasterNotes border) 0 (notes_after (opening event (book_of fixed now)) (later event fixed now)) still.talk.notes
  found_hidden still now knows is same =
      let first : State = book_of fixed now in
      let open_unseen : IsTalkUnseen border (opening event first) =
      opening_hidden laws border event (book_of fixed still) first (record { closed = closed; force = same.second }) knows is (record { fixed = refl; now = same })
      in
      (talks_alike border closed.some (opening event first) [] (later event fixed now).now.talk still.talk open_unseen
      (same_sym fixed border still (later event fixed now).now (after_hidden still now knows is same)).talk).notes

  pub talk_hidden : (still now : Now) → IsSound (book_of fixed now) → KnowsModes (book_of fixed still) → is_hidden border event (book_of fixed now) ≡ true
      → Same fixed border still now → IsTalkUnseen border (talk event (book_of fixed now))
  talk_hidden still now sound knows is same =
      let first : State = book_of fixed now in
      let second : State = book_of fixed still in
      let agree : Agree border second first = record { fixed = refl; now = same } in
      let after : Same fixed border still (later event fixed now).now = after_hidden still now knows is same in
      let ended_there : Agree border first (later event fixed now) =
      agree_trans border first second (later event fixed now) (agree_sym border second first agree) (record { fixed = refl; now = after })
      in
      let open_unseen : IsTalkUnseen border (opening event first) = opening_hidden laws border event second first (record { closed = closed; force = same.second }) knows is agree in
      let xs = notes_after (opening event first) (later event fixed now) in
      let note_changes_at = note_changes (news event first) (modes_in first) xs (later event fixed now) in
      let own = kept_of (served event first) (later event fixed now) in
      parts_alike border (opening event first) (note_changes_at ++ own) [] [] open_unseen
      (parts_alike border note_changes_at own [] []
      (master_notes_alike border (news event first) no_news (λ k beyond. news_hidden still now (closed.some k beyond) sound knows is same)
      (modes_in first) (modes_in second) (later event fixed now) second xs still.talk.notes
      (λ k beyond. sym (mode_alike laws fixed border k still now beyond same))
      (λ k beyond. sym (mode_alike laws fixed border k still (later event fixed now).now beyond after))
      (found_hidden still now knows is same) 0 fixed.object.masters
      ∙ ap (talk_part border) (note_changes_rest still.talk.notes second 0 fixed.object.masters))
      (kept_hidden laws border event first ended_there))
