-- A step keeps two books in agreement, and one of a hidden event is not seen.
use Rattle.std.proofs.Common.{◌≡◌, Bool, true, false, sym, ◌∙◌, refl, subst}
use Rattle.pm_laws.proofs.Common.{Agree, BelowLaws, Border, Event, Fixed, Ipi, IsClosed, IsSound, KnowsModes, NodeId, Now, Same, State, changes_within, effect, is_hidden, is_within, master_place, stages, talk}
use Rattle.pm_base.specs.declared.events.Message.{Message}
use Rattle.pm_base.proofs.Booleans.{first_passes}
use Rattle.pm_ipi.specs.Calls.{call_of}
use Rattle.pm_state.specs.Stages.{after_stages}
use Rattle.pm_laws.proofs.AgreeLaw.{agree_sym, agree_trans, same_sym}
use Rattle.pm_laws.proofs.CallsAlike.{book_of}
use Rattle.pm_laws.proofs.EventsLaw.{event_alike, event_hidden, hidden_fixed, some_beyond}
use Rattle.pm_laws.proofs.PathLaw.{stages_alike, stages_hidden}
use Rattle.pm_laws.proofs.TalkFacts.{talked_alike, talked_unseen}
use Rattle.pm_laws.proofs.TellingsLaw.{talk_alike, talk_hidden}

-- ---- steps

module _ (laws : BelowLaws) (fixed : Fixed) (border : Border) (closed : IsClosed fixed border) (event : Event) where
  -- a hidden event, beside a book that stays
  pub effect_hidden : (still now : Now) → IsSound (book_of fixed now) → KnowsModes (book_of fixed still) → is_hidden border event (book_of fixed now) ≡ true
      → Same fixed border still now → Agree border (book_of fixed still) (effect event (book_of fixed now))
  effect_hidden still now sound knows is same =
      let first : State = book_of fixed now in
      let second : State = book_of fixed still in
      let after : State = after_stages (stages event first) first in
      let stays : Agree border second after =
      stages_hidden laws border (stages event first) second first knows (event_hidden laws.kinds border event first (record { closed = closed; force = same.second }) is) (record { fixed = refl; now = same })
      in
      agree_sym border (effect event first) second
      (talked_unseen border (talk event first) after second closed.some (talk_hidden laws border event fixed closed still now sound knows is same) (agree_sym border second after stays))

  -- any other event, in two books
  pub effect_alike : (a b : Now) → IsSound (book_of fixed a) → IsSound (book_of fixed b) → is_hidden border event (book_of fixed a) ≡ false
      → Same fixed border a b → Agree border (effect event (book_of fixed a)) (effect event (book_of fixed b))
  effect_alike a b sound_a sound_b is same =
      let first : State = book_of fixed a in
      let second : State = book_of fixed b in
      let after : Agree border (after_stages (stages event first) first) (after_stages (stages event second) second) =
      stages_alike laws border (stages event first) (stages event second) first second
      (some_beyond border event first closed.some is)
      (event_alike laws fixed border event a b sound_a.armed closed.some is same) (record { fixed = refl; now = same })
      in
      talked_alike border (talk event first) (talk event second) (after_stages (stages event first) first) (after_stages (stages event second) second) closed.some
      (talk_alike laws border event fixed closed a b sound_a sound_b is same) after

  effects_by : (a b : Now) (hidden : Bool) → is_hidden border event (book_of fixed a) ≡ hidden → IsSound (book_of fixed a) → IsSound (book_of fixed b)
      → Same fixed border a b → Agree border (effect event (book_of fixed a)) (effect event (book_of fixed b))
  effects_by a b true is sound_a sound_b same =
      let first : State = book_of fixed a in
      let second : State = book_of fixed b in
      let back : Same fixed border b a = same_sym fixed border a b same in
      let one : Agree border second (effect event first) = effect_hidden b a sound_a sound_b.knows is back in
      let two : Agree border first (effect event second) =
      effect_hidden a b sound_b sound_a.knows (sym (hidden_fixed fixed border event a b) ∙ is) same
      in
      agree_trans border (effect event first) second (effect event second)
      (agree_sym border second (effect event first) one)
      (agree_trans border second first (effect event second) (record { fixed = refl; now = back }) two)
  effects_by a b false is sound_a sound_b same = effect_alike a b sound_a sound_b is same

-- ---- sound books

-- one event in two books
pub steps_agree : BelowLaws → (border : Border) (event : Event) (a b : State) → IsClosed a.fixed border → IsSound a → IsSound b → Agree border a b → Agree border (effect event a) (effect event b)
steps_agree laws border event a b closed sound_a sound_b agree =
    let P : Fixed → Type 0 = λ fixed. IsSound (book_of fixed b.now) → Agree border (effect event a) (effect event (book_of fixed b.now)) in
    subst P agree.fixed
    (λ sound. effects_by laws a.fixed border closed event a.now b.now (is_hidden border event a) refl sound_a sound agree.now) sound_b

pub step_hidden : BelowLaws → (border : Border) (event : Event) (a b : State) → IsClosed a.fixed border → IsSound a → IsSound b → is_hidden border event a ≡ true → Agree border a b → Agree border (effect event a) b
step_hidden laws border event a b closed sound_a sound_b is agree =
    let P : Fixed → Type 0 = λ fixed. IsSound (book_of fixed b.now) → Agree border (effect event a) (book_of fixed b.now) in
    subst P agree.fixed
    (λ sound. agree_sym border (book_of a.fixed b.now) (effect event a)
    (effect_hidden laws a.fixed border closed event b.now a.now sound_a sound.knows is (same_sym a.fixed border a.now b.now agree.now)))
    sound_b

-- the messages of a master within
pub message_within : (border : Border) (master : NodeId) (message : Message) (book : State) → is_within border (master_place master book) ≡ true → is_hidden border (Ipi master message) book ≡ true
message_within border master message book is =
    first_passes (is_within border (master_place master book)) (changes_within border (call_of message) book) is
