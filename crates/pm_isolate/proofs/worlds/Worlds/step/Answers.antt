use Rattle.std.proofs.Common.{◌≡◌, ◌∙◌, ap}
use Rattle.pm_isolate.specs.Sides.{Sides}
use Rattle.pm_isolate.specs.Within.{looked, stepped}
use Rattle.pm_isolate.proofs.LookedLemmas.{step_is, step_marked, step_procs}
use Rattle.pm_isolate.proofs.worlds.Worlds.step.Goals as goal

pub returns : goal.returns
returns c =
    let i = c.self.inside in
    let a = c.step_line.new.runner in
    let b = c.step_line-2.new.runner in
    let m = c.step_line-2.new.moves in
    let notes : c.log.new.marks ≡ looked a.book b.book m i.procs.items i.differs =
    c.log.ensures
    ∙ ap (λ x. looked x c.book-2.result.now m c.as_slice.result.now i.differs) c.book.ensures
    ∙ ap (λ x. looked a.book x m c.as_slice.result.now i.differs) c.book-2.ensures
    ∙ ap (λ procs. looked a.book b.book m procs i.differs) c.as_slice.ensures.value
    in
    step_is c.units_stand_in_order.ensures c.unit_map_places.ensures c.args.m c.args.event.now c.quiet_event-other.result.now i.loud i.quiet a b i.differs c.log.new.marks i.moves c.clear.new.self c.step_line.new.moves m i.procs.items
    c.self.invariant.0 c.self.invariant.1 c.quiet_event-other.ensures c.clear.ensures c.step_line.ensures.stand c.step_line.ensures.moves c.step_line-2.ensures.stand c.step_line-2.ensures.moves notes
    ∙ ap (λ (w : Sides). stepped c.args.m c.args.event.now w) c.self.view_is

pub invariant_of-self : goal.invariant_of-self
invariant_of-self c =
    let i = c.self.inside in
    let a = c.step_line.new.runner in
    let b = c.step_line-2.new.runner in
    let m = c.step_line-2.new.moves in
    let notes : c.log.new.marks ≡ looked a.book b.book m i.procs.items i.differs =
    c.log.ensures
    ∙ ap (λ x. looked x c.book-2.result.now m c.as_slice.result.now i.differs) c.book.ensures
    ∙ ap (λ x. looked a.book x m c.as_slice.result.now i.differs) c.book-2.ensures
    ∙ ap (λ procs. looked a.book b.book m procs i.differs) c.as_slice.ensures.value
    in (
      step_marked c.units_stand_in_order.ensures c.unit_map_places.ensures c.args.m c.args.event.now c.quiet_event-other.result.now i.loud i.quiet a b i.differs c.log.new.marks i.moves c.clear.new.self c.step_line.new.moves m i.procs.items
          c.self.invariant.0 c.self.invariant.1 c.quiet_event-other.ensures c.clear.ensures c.step_line.ensures.stand c.step_line.ensures.moves c.step_line-2.ensures.stand c.step_line-2.ensures.moves notes,
      step_procs c.units_stand_in_order.ensures c.unit_map_places.ensures c.args.m c.args.event.now c.quiet_event-other.result.now i.loud i.quiet a b i.differs c.log.new.marks i.moves c.clear.new.self c.step_line.new.moves m i.procs.items
          c.self.invariant.0 c.self.invariant.1 c.quiet_event-other.ensures c.clear.ensures c.step_line.ensures.stand c.step_line.ensures.moves c.step_line-2.ensures.stand c.step_line-2.ensures.moves notes,
      c.self.invariant.2,
    )
