-- The requests to suspend that are made and that end in two sound books that agree, and what is told there.
use Rattle.std.proofs.Common.{◌≡◌, Bool, true, false, [], None, refl, ap, sym, ◌∙◌, subst}
use Rattle.pm_laws.proofs.Common.{Agree, BelowLaws, Border, Event, Fixed, IsClosed, IsSound, IsTalkUnseen, Now, Same, State, asks_beyond, ended, ends_beyond, is_hidden, says, talk, talk_part}
use Rattle.pm_core.specs.Step.{asks}
use Rattle.pm_calls.specs.Verdict.{asked_by as asked_of_says}
use Rattle.pm_laws.proofs.AgreeLaw.{agree_self}
use Rattle.pm_laws.proofs.CallsAlike.{book_of}
use Rattle.pm_laws.proofs.HiddenLemmas.{HasClosed}
use Rattle.pm_laws.proofs.EndsLaw.{ended_alike, ended_hidden}
use Rattle.pm_laws.proofs.EventsLaw.{hidden_fixed}
use Rattle.pm_laws.proofs.TellingsLaw.{talk_alike, talk_hidden}
use Rattle.pm_laws.proofs.VerdictsLaw.{event_within, none_asked, says_alike}

module _ (laws : BelowLaws) (border : Border) (event : Event) where
  -- ---- a hidden event, of one book

  pub asked_hidden : (book : State) → HasClosed border book → is_hidden border event book ≡ true → asks_beyond border (asks event book) ≡ None
  asked_hidden book closed is = none_asked border (says event book) (event_within border book event closed is)

  pub ends_hidden : (book : State) → HasClosed border book → IsSound book → is_hidden border event book ≡ true → ends_beyond border (ended event book) ≡ []
  ends_hidden book closed sound is = ended_hidden laws border event book book closed sound.knows is (agree_self laws.units border book closed.closed sound)

  pub told_hidden : (book : State) → HasClosed border book → IsSound book → is_hidden border event book ≡ true → IsTalkUnseen border (talk event book)
  told_hidden book closed sound is = talk_hidden laws border event book.fixed closed.closed book.now book.now sound sound.knows is (agree_self laws.units border book closed.closed sound).now

  -- ---- any event, of two books

  asked_by : (fixed : Fixed) (a b : Now) (hidden : Bool) → is_hidden border event (book_of fixed a) ≡ hidden → IsClosed fixed border → Same fixed border a b → asks_beyond border (asks event (book_of fixed a)) ≡ asks_beyond border (asks event (book_of fixed b))
  asked_by fixed a b true is closed same =
      asked_hidden (book_of fixed a) (record { closed = closed; force = same.first }) is ∙ sym (asked_hidden (book_of fixed b) (record { closed = closed; force = same.second }) (sym (hidden_fixed fixed border event a b) ∙ is))
  asked_by fixed a b false is closed same = ap (asks_beyond border) (ap asked_of_says (says_alike laws fixed border a b same event is))

  ends_by : (fixed : Fixed) (a b : Now) (hidden : Bool) → is_hidden border event (book_of fixed a) ≡ hidden → IsClosed fixed border → IsSound (book_of fixed a) → IsSound (book_of fixed b) → Same fixed border a b → ends_beyond border (ended event (book_of fixed a)) ≡ ends_beyond border (ended event (book_of fixed b))
  ends_by fixed a b true is closed sound_a sound_b same =
      ends_hidden (book_of fixed a) (record { closed = closed; force = same.first }) sound_a is
      ∙ sym (ends_hidden (book_of fixed b) (record { closed = closed; force = same.second }) sound_b (sym (hidden_fixed fixed border event a b) ∙ is))
  ends_by fixed a b false is closed sound_a sound_b same = ended_alike laws fixed border event a b sound_a.armed closed.some is same

  told_by : (fixed : Fixed) (a b : Now) (hidden : Bool) → is_hidden border event (book_of fixed a) ≡ hidden → IsClosed fixed border → IsSound (book_of fixed a) → IsSound (book_of fixed b) → Same fixed border a b → talk_part border (talk event (book_of fixed a)) ≡ talk_part border (talk event (book_of fixed b))
  told_by fixed a b true is closed sound_a sound_b same =
      told_hidden (book_of fixed a) (record { closed = closed; force = same.first }) sound_a is
      ∙ sym (told_hidden (book_of fixed b) (record { closed = closed; force = same.second }) sound_b (sym (hidden_fixed fixed border event a b) ∙ is))
  told_by fixed a b false is closed sound_a sound_b same = talk_alike laws border event fixed closed a b sound_a sound_b is same

  pub asked_agree : (a b : State) → IsClosed a.fixed border → Agree border a b → asks_beyond border (asks event a) ≡ asks_beyond border (asks event b)
  asked_agree a b closed agree =
      let P : Fixed → Type 0 = λ fixed. asks_beyond border (asks event a) ≡ asks_beyond border (asks event (book_of fixed b.now)) in
      subst P agree.fixed (asked_by a.fixed a.now b.now (is_hidden border event a) refl closed agree.now)

  pub ends_agree : (a b : State) → IsClosed a.fixed border → IsSound a → IsSound b → Agree border a b → ends_beyond border (ended event a) ≡ ends_beyond border (ended event b)
  ends_agree a b closed sound_a sound_b agree =
      let P : Fixed → Type 0 = λ fixed. IsSound (book_of fixed b.now) → ends_beyond border (ended event a) ≡ ends_beyond border (ended event (book_of fixed b.now)) in
      subst P agree.fixed (λ sound. ends_by a.fixed a.now b.now (is_hidden border event a) refl closed sound_a sound agree.now) sound_b

  pub told_agree : (a b : State) → IsClosed a.fixed border → IsSound a → IsSound b → Agree border a b → talk_part border (talk event a) ≡ talk_part border (talk event b)
  told_agree a b closed sound_a sound_b agree =
      let P : Fixed → Type 0 = λ fixed. IsSound (book_of fixed b.now) → talk_part border (talk event a) ≡ talk_part border (talk event (book_of fixed b.now)) in
      subst P agree.fixed (λ sound. told_by a.fixed a.now b.now (is_hidden border event a) refl closed sound_a sound agree.now) sound_b
