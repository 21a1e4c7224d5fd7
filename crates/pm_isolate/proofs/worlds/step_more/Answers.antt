use Rattle.std.proofs.Common.{◌≡◌, ◌∙◌, ◌∷◌, List, length, refl, ap, arith, sym}
use Rattle.pm_base.specs.declared.events.Event.{Event}
use Rattle.pm_core.specs.Step.{effect}
use Rattle.pm_state.specs.State.{State}
use Rattle.pm_split.specs.Left.{core_event, events_left}
use Rattle.pm_run.specs.Run.{book_after, setup_of, split}
use Rattle.pm_isolate.specs.Moves.{Logged, logged_along, with_step}
use Rattle.pm_isolate.proofs.StandLemmas.{line_ends, next_left, none_ends, one_more}
use Rattle.pm_isolate.proofs.worlds.step_more.Goals as goal

pub loop-core-init : goal.loop-core-init
loop-core-init c =
    let start = c.args.runner.now in
    let now = c.split-parts.new.self in
    let all : List Event = (split (setup_of start.book) c.args.event.now start).events in
    let events = c.split-parts.ensures.events in
    let book = c.split-parts.ensures.book in
    record {
      way = record {
        fixed = ap (λ (b : State). b.fixed) book;
        book = ap (λ (events : List Event). book_after events now.book) events ∙ ap (book_after all) book;
        boxes = c.split-parts.ensures.boxes;
      };
      moves =
          ap (λ (events : List Event). logged_along c.args.marks.now events now.book c.args.moves.now) events
          ∙ ap (λ (b : State). logged_along c.args.marks.now all b c.args.moves.now) book;
    }

pub loop-core-preserved : goal.loop-core-preserved
loop-core-preserved c =
    let core = c.event-taken.result.now in
    let events : events_left c.loop-core.runner.book.fixed.object c.loop-core.runner.book.fixed.topology c.loop-core.runner.boxes c.loop-core.left ≡ core ∷ events_left c.loop-core.runner.book.fixed.object c.loop-core.runner.book.fixed.topology c.next.new.self.boxes c.next.new.cores =
    c.in-Some.ensures.events ∙ ap (λ (e : Event). e ∷ events_left c.loop-core.runner.book.fixed.object c.loop-core.runner.book.fixed.topology c.next.new.self.boxes c.next.new.cores) (sym c.event-taken.ensures)
    in
    let now = c.loop-core.runner in
    let taken = c.next.new.self in
    let then = c.step.new.self in
    let marks = c.args.marks.now in
    let way = c.loop-core.invariant.way in
    let next = next_left core c.loop-core.left c.next.new.cores c.args.runner.now now taken then way.fixed events c.step.ensures.boxes in
    let later : List Event = events_left c.args.runner.now.book.fixed.object c.args.runner.now.book.fixed.topology then.boxes c.next.new.cores in
    let stays : taken.book ≡ now.book = c.in-Some.ensures.book in
    record {
      way = one_more c.args.event.now core c.loop-core.left c.next.new.cores c.args.runner.now now taken then way stays
          events c.in-Some.ensures.boxes c.step.ensures.book c.step.ensures.boxes;
      moves =
          ap (λ (b : State). logged_along marks later b c.step.new.moves) (c.step.ensures.book ∙ ap (effect core) stays)
          ∙ ap (λ (m : Logged). logged_along marks later (effect core now.book) m)
          (c.step.ensures.moves ∙ ap (λ (b : State). with_step marks core b (effect core b) c.loop-core.moves) stays)
          ∙ sym (ap (λ (events : List Event). logged_along marks events now.book c.loop-core.moves) next)
          ∙ c.loop-core.invariant.moves;
    }

pub loop-core-smaller : goal.loop-core-smaller
loop-core-smaller c =
    let next = next_left (core_event c.in-Some.core c.next.new.made) c.loop-core.left c.next.new.cores c.args.runner.now c.loop-core.runner c.next.new.self c.step.new.self
    c.loop-core.invariant.way.fixed c.in-Some.ensures.events c.step.ensures.boxes in
    omega (arith, ap length next)

pub returns : goal.returns
returns c =
    let now = c.loop-core.runner in
    let none = none_ends c.loop-core.left c.args.runner.now now c.loop-core.invariant.way.fixed c.in_default.ensures.events.0 in
    record {
      stand = line_ends c.args.event.now c.loop-core.left c.args.runner.now now c.next.new.self c.loop-core.invariant.way
          c.in_default.ensures.book c.in_default.ensures.events.0 (c.in_default.ensures.end refl);
      moves = sym (ap (λ (events : List Event). logged_along c.args.marks.now events now.book c.loop-core.moves) none) ∙ c.loop-core.invariant.moves;
    }
