use Rattle.std.proofs.Common.{sym, subst}
use Rattle.pm_base.specs.declared.events.Event.TheVariants.{Pass}
use Rattle.pm_core.specs.Step.{effect}
use Rattle.pm_state.specs.State.{State}
use Rattle.pm_laws.specs.Agree.{Agree}
use Rattle.pm_laws.specs.Left.{border_in}
use Rattle.pm_laws.specs.Values.{IsModeAlike, IsValueAlike}
use Rattle.pm_laws.proofs.SidesLaw.{nothing_stepped}
use Rattle.pm_laws.proofs.worlds.step_left.Goals as goal

pub returns-clause-agree : goal.returns-clause-agree
returns-clause-agree c =
    let a : State = c.args.a.now in
    let b : State = c.args.b.now in
    let chip = c.stays_sound.ensures.formed in
    let still = (c.steps_keep_apart.ensures.rest c.args.m a b c.requires.object chip c.stays_sound.ensures.sound c.stays_sound-2.ensures.sound c.requires.agree).0 in
    let P : State → Type 0 = λ y. Agree (border_in a c.args.m) a y in
    let Q : State → Type 0 = λ x. Agree (border_in a c.args.m) x c.step.new.self in
    subst Q (sym c.step-2.ensures.book)
    (c.steps_keep_apart.ensures.left c.args.m c.args.own_event.now a c.step.new.self c.requires.own c.requires.object chip
    c.stays_sound.ensures.sound c.stays_sound-3.ensures.sound (subst P (sym c.step.ensures.book) still)).0

pub returns-clause-values : goal.returns-clause-values
returns-clause-values c =
    let a : State = c.args.a.now in
    let b : State = c.args.b.now in
    let chip = c.stays_sound.ensures.formed in
    let still = (c.steps_keep_apart.ensures.rest c.args.m a b c.requires.object chip c.stays_sound.ensures.sound c.stays_sound-2.ensures.sound c.requires.agree).0 in
    let P : State → Type 0 = λ y. Agree (border_in a c.args.m) a y in
    let after = (c.steps_keep_apart.ensures.left c.args.m c.args.own_event.now a c.step.new.self c.requires.own c.requires.object chip
    c.stays_sound.ensures.sound c.stays_sound-3.ensures.sound (subst P (sym c.step.ensures.book) still)).0
    in
    let Q : State → Type 0 = λ x. IsValueAlike a.fixed.object a.fixed.topology (border_in a c.args.m) x c.step.new.self in
    subst Q (sym c.step-2.ensures.book)
    (c.steps_keep_apart.ensures.values c.args.m (effect c.args.own_event.now a) c.step.new.self c.requires.object chip after)

pub returns-clause-modes : goal.returns-clause-modes
returns-clause-modes c =
    let a : State = c.args.a.now in
    let b : State = c.args.b.now in
    let chip = c.stays_sound.ensures.formed in
    let still = (c.steps_keep_apart.ensures.rest c.args.m a b c.requires.object chip c.stays_sound.ensures.sound c.stays_sound-2.ensures.sound c.requires.agree).0 in
    let P : State → Type 0 = λ y. Agree (border_in a c.args.m) a y in
    let after = (c.steps_keep_apart.ensures.left c.args.m c.args.own_event.now a c.step.new.self c.requires.own c.requires.object chip
    c.stays_sound.ensures.sound c.stays_sound-3.ensures.sound (subst P (sym c.step.ensures.book) still)).0
    in
    let Q : State → Type 0 = λ x. IsModeAlike a.fixed.object a.fixed.topology (border_in a c.args.m) x c.step.new.self in
    subst Q (sym c.step-2.ensures.book) (c.steps_keep_apart.ensures.modes c.args.m (effect c.args.own_event.now a) c.step.new.self after)

pub returns-clause-told_a : goal.returns-clause-told_a
returns-clause-told_a c =
    let a : State = c.args.a.now in
    let own = (c.steps_keep_apart.ensures.left c.args.m c.args.own_event.now a c.args.b.now c.requires.own c.requires.object c.stays_sound.ensures.formed
    c.stays_sound.ensures.sound c.stays_sound-2.ensures.sound c.requires.agree).1
    in
    nothing_stepped a.fixed.object a.fixed.topology (border_in a c.args.m) a c.args.own_event.now c.step-2.new.self c.step-2.new.out
    c.step-2.ensures.book c.step-2.ensures.out own

pub returns-clause-told_b : goal.returns-clause-told_b
returns-clause-told_b c =
    let a : State = c.args.a.now in
    let b : State = c.args.b.now in
    let none = (c.steps_keep_apart.ensures.rest c.args.m a b c.requires.object c.stays_sound.ensures.formed
    c.stays_sound.ensures.sound c.stays_sound-2.ensures.sound c.requires.agree).1
    in
    nothing_stepped a.fixed.object a.fixed.topology (border_in a c.args.m) b Pass c.step.new.self c.step.new.out c.step.ensures.book c.step.ensures.out none
