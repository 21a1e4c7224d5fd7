-- A hidden event pulses no reset line beyond, and any other pulses the same one in two books that agree.
use Rattle.std.proofs.Common.{◌≡◌, Bool, true, false, refl, sym, ◌∙◌, ap, subst}
use Rattle.pm_laws.proofs.Common.{Agree, BelowLaws, Border, Event, Fixed, IsClosed, Now, Same, State, is_hidden, pulse}
use Rattle.pm_laws.specs.Pulse.{pulse_beyond}
use Rattle.pm_laws.proofs.CallsAlike.{book_of}
use Rattle.pm_laws.proofs.EventsLaw.{hidden_fixed}
use Rattle.pm_laws.proofs.VerdictsLaw.{pulse_alike, pulse_hidden}

-- ---- any event, of two books

pulse_by : BelowLaws → (fixed : Fixed) (border : Border) (event : Event) (a b : Now) (hidden : Bool) → is_hidden border event (book_of fixed a) ≡ hidden → IsClosed fixed border → Same fixed border a b → pulse_beyond fixed.topology border (pulse event (book_of fixed a)) ≡ pulse_beyond fixed.topology border (pulse event (book_of fixed b))
pulse_by laws fixed border event a b true is closed same =
    pulse_hidden border (book_of fixed a) event (record { closed = closed; force = same.first }) is
    ∙ sym (pulse_hidden border (book_of fixed b) event (record { closed = closed; force = same.second }) (sym (hidden_fixed fixed border event a b) ∙ is))
pulse_by laws fixed border event a b false is closed same = ap (pulse_beyond fixed.topology border) (pulse_alike laws fixed border a b same event is)

pub pulse_agree : BelowLaws → (border : Border) (event : Event) (a b : State) → IsClosed a.fixed border → Agree border a b → pulse_beyond a.fixed.topology border (pulse event a) ≡ pulse_beyond a.fixed.topology border (pulse event b)
pulse_agree laws border event a b closed agree =
    let P : Fixed → Type 0 = λ fixed. pulse_beyond a.fixed.topology border (pulse event a) ≡ pulse_beyond a.fixed.topology border (pulse event (book_of fixed b.now)) in
    subst P agree.fixed (pulse_by laws a.fixed border event a.now b.now (is_hidden border event a) refl closed agree.now)
