use Rattle.std.proofs.Common.{◌≡◌, ◌∙◌, ap, sym, subst}
use Rattle.pm_base.specs.declared.events.Event.{Event}
use Rattle.pm_core.specs.Outbox.{Holds}
use Rattle.pm_state.specs.State.{State}
use Rattle.pm_core.specs.Step.{effect, outputs}
use Rattle.pm_laws.specs.Agree.{Agree}
use Rattle.pm_laws.specs.Left.{border_in}
use Rattle.pm_laws.specs.Quiet.{quiet_event}
use Rattle.pm_laws.specs.Values.{IsModeAlike, IsValueAlike}
use Rattle.pm_laws.proofs.SidesLaw.{both_stepped}
use Rattle.pm_laws.proofs.worlds.step_both.Goals as goal

pub returns-clause-out_b : goal.returns-clause-out_b
returns-clause-out_b c =
    let P : Event → Type 0 = λ e. Holds (outputs e c.args.b.now) c.step-2.new.out in
    subst P c.quiet_event-other.ensures c.step-2.ensures.out

pub returns-clause-agree : goal.returns-clause-agree
returns-clause-agree c =
    let a : State = c.args.a.now in
    let b : State = c.args.b.now in
    let event : Event = c.args.event.now in
    let other : Event = quiet_event c.args.m event in
    let second : c.step-2.new.self ≡ effect other b = c.step-2.ensures.book ∙ ap (λ (e : Event). effect e b) c.quiet_event-other.ensures in
    let P : State → Type 0 = λ x. Agree (border_in a c.args.m) x c.step-2.new.self in
    let Q : State → Type 0 = λ y. Agree (border_in a c.args.m) (effect event a) y in
    subst P (sym c.step.ensures.book)
    (subst Q (sym second)
    (c.steps_keep_apart.ensures.agree c.args.m event a b c.requires.object c.stays_sound.ensures.formed c.stays_sound.ensures.sound c.stays_sound-2.ensures.sound c.requires.agree))

pub returns-clause-values : goal.returns-clause-values
returns-clause-values c =
    let a : State = c.args.a.now in
    let b : State = c.args.b.now in
    let event : Event = c.args.event.now in
    let other : Event = quiet_event c.args.m event in
    let chip = c.stays_sound.ensures.formed in
    let after = c.steps_keep_apart.ensures.agree c.args.m event a b c.requires.object chip c.stays_sound.ensures.sound c.stays_sound-2.ensures.sound c.requires.agree in
    let second : c.step-2.new.self ≡ effect other b = c.step-2.ensures.book ∙ ap (λ (e : Event). effect e b) c.quiet_event-other.ensures in
    let P : State → Type 0 = λ x. IsValueAlike a.fixed.object a.fixed.topology (border_in a c.args.m) x c.step-2.new.self in
    let Q : State → Type 0 = λ y. IsValueAlike a.fixed.object a.fixed.topology (border_in a c.args.m) (effect event a) y in
    subst P (sym c.step.ensures.book)
    (subst Q (sym second) (c.steps_keep_apart.ensures.values c.args.m (effect event a) (effect other b) c.requires.object chip after))

pub returns-clause-modes : goal.returns-clause-modes
returns-clause-modes c =
    let a : State = c.args.a.now in
    let b : State = c.args.b.now in
    let event : Event = c.args.event.now in
    let other : Event = quiet_event c.args.m event in
    let chip = c.stays_sound.ensures.formed in
    let after = c.steps_keep_apart.ensures.agree c.args.m event a b c.requires.object chip c.stays_sound.ensures.sound c.stays_sound-2.ensures.sound c.requires.agree in
    let second : c.step-2.new.self ≡ effect other b = c.step-2.ensures.book ∙ ap (λ (e : Event). effect e b) c.quiet_event-other.ensures in
    let P : State → Type 0 = λ x. IsModeAlike a.fixed.object a.fixed.topology (border_in a c.args.m) x c.step-2.new.self in
    let Q : State → Type 0 = λ y. IsModeAlike a.fixed.object a.fixed.topology (border_in a c.args.m) (effect event a) y in
    subst P (sym c.step.ensures.book)
    (subst Q (sym second) (c.steps_keep_apart.ensures.modes c.args.m (effect event a) (effect other b) after))

pub returns-clause-told : goal.returns-clause-told
returns-clause-told c =
    let a : State = c.args.a.now in
    let b : State = c.args.b.now in
    let event : Event = c.args.event.now in
    let other : Event = quiet_event c.args.m event in
    let chip = c.stays_sound.ensures.formed in
    let P : Event → Type 0 = λ e. Holds (outputs e b) c.step-2.new.out in
    both_stepped a b event other c.args.m c.step.new.self c.step-2.new.self c.step.new.out c.step-2.new.out
    c.step.ensures.book (c.step-2.ensures.book ∙ ap (λ (e : Event). effect e b) c.quiet_event-other.ensures)
    c.step.ensures.out (subst P c.quiet_event-other.ensures c.step-2.ensures.out)
    (c.steps_keep_apart.ensures.told c.args.m event a b c.requires.object chip c.requires.named c.stays_sound.ensures.sound c.stays_sound-2.ensures.sound c.requires.agree)
