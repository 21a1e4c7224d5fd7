use Rattle.std.proofs.lemmas.List.{drop_more}
use Rattle.pm_tasks.specs.Stored.{timetable}
use Rattle.pm_tasks.proofs.HistoryLemmas.{run_step}
use Rattle.pm_tasks.proofs.history.run.Goals as goal

pub loop-event-preserved : goal.loop-event-preserved
loop-event-preserved g c = run_step c.args.events.now c.loop-event.event-index _ (timetable g.H.Handler c.loop-event.tasks) (timetable g.H.Handler c.serve.new.tasks) _ c.loop-event.out.items c.serve.new.out.items _ (drop_more c.args.events.now c.loop-event.event-index _ c.loop-event-test.true) c.in_ok-serve.ensures.table c.in_ok-serve.ensures.told c.loop-event.invariant
