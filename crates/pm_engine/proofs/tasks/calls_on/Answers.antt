use Rattle.std.proofs.Common.{List, ◌∙◌, ap, refl}
use Rattle.pm_tasks.specs.declared.tasks.Fired.{Fired}
use Rattle.pm_tasks.specs.Stored.{timetable}
use Rattle.pm_tasks.specs.Timetable.{Timetable}
use Rattle.pm_engine.proofs.TasksLemmas.{all_called, one_call}
use Rattle.pm_engine.proofs.tasks.calls_on.Goals as goal

pub calls-init : goal.calls-init
calls-init g c = (refl, λ result new writes. writes)

pub calls-preserved : goal.calls-preserved
calls-preserved g c =
    let first = timetable g.T.Handler c.args.tasks.now in
    let old = timetable g.T.Handler c.calls.tasks in
    let new = timetable g.T.Handler c.take.new.self in (
      c.take.ensures.rest ∙ ap (λ (t : Timetable). record t { left = new.left }) c.calls.invariant.0,
      one_call g.O.Sink c.args.number first.left old.left new.left c.in-Some.fired c.args.written c.calls.so_far c.task_on-so_far.result
          c.args.out.now c.calls.out c.task_on-so_far.new.out c.in-Some.ensures.one c.calls.invariant.1 c.task_on-so_far.ensures,
    )

pub returns : goal.returns
returns g c =
    let first = timetable g.T.Handler c.args.tasks.now in
    let old = timetable g.T.Handler c.calls.tasks in
    let new = timetable g.T.Handler c.take.new.self in
    record {
      tasks =
          c.take.ensures.rest
          ∙ ap (λ (t : Timetable). record t { left = new.left }) c.calls.invariant.0
          ∙ ap (λ (left : List Fired). record first { left = left }) c.in_default.ensures.done;
      writes = all_called g.O.Sink c.args.number first.left old.left c.args.written c.calls.so_far c.args.out.now c.calls.out
          c.in_default.ensures.none c.calls.invariant.1;
    }
