use Rattle.std.proofs.Common.{◌≡◌, Bool, ◌∙◌, ap, List}
use Rattle.pm_base.specs.declared.names.Unit.{Unit}
use Rattle.pm_core.specs.Step.{effect, turns_proc}
use Rattle.pm_state.specs.State.{State}
use Rattle.pm_run.specs.declared.runner.Runner.{Runner}
use Rattle.pm_isolate.specs.Moves.{Logged, with_step, with_turn, with_units}
use Rattle.pm_isolate.proofs.boxed_run.BoxedRun.step.Goals as goal

pub returns-clause-moves : goal.returns-clause-moves
returns-clause-moves c =
    let book : c.deref_mut.result.now.book ≡ c.args.self.now.book = cc in
    let units : List Unit = c.as_slice.result.now in
    c.add_units.ensures
    ∙ ap (λ (m : Logged). with_units c.args.marks.now units m) c.add_turn.ensures
    ∙ ap (λ (turned : Bool). with_units c.args.marks.now units (with_turn turned c.args.moves.now))
    (ap (λ (r : Runner). r.outbox.turned) c.deref.ensures ∙ c.step.ensures.turned)
    ∙ ap (λ (us : List Unit). with_units c.args.marks.now us (with_turn (turns_proc c.args.event.now c.deref_mut.result.now.book) c.args.moves.now))
    (c.as_slice.ensures ∙ ap (λ (r : Runner). r.outbox.moved.items) c.deref-2.ensures ∙ c.step.ensures.out.moved)
    ∙ ap (λ (b : State). with_step c.args.marks.now c.args.event.now b (effect c.args.event.now b) c.args.moves.now) book
