use Rattle.std.proofs.Common.{sym}
use Rattle.pm_tasks.specs.Stored.{timed}
use Rattle.pm_tasks.proofs.Tables as table
use Rattle.pm_tasks.proofs.tasks.TasksOf.start.Goals as goal

pub returns-then-interval-eq0 : goal.returns-then-interval-eq0
returns-then-interval-eq0 g c = record {
  answer = table.starts_at_no_interval (timed g.H.Handler) c.args.self.now.before c.args.self.now.time c.args.self.now.next c.args.self.now.limit c.args.self.now.tasks.slots c.args.key c.args.interval c.if-interval-eq0.true;
  started = table.no_interval_table (timed g.H.Handler) c.args.self.now.before c.args.self.now.time c.args.self.now.next c.args.self.now.limit c.args.self.now.tasks.slots c.args.key c.args.interval c.if-interval-eq0.true;
}

pub returns-in-Some : goal.returns-in-Some
returns-in-Some g c = record {
  answer = table.starts (timed g.H.Handler) c.args.self.now.before c.args.self.now.time c.args.self.now.next c.args.self.now.limit c.args.self.now.tasks.slots c.args.key c.args.interval c.in-Some.task.now c.requires (sym c.in-Some.ensures.value) c.if-interval-eq0.false;
  started = table.started_table (timed g.H.Handler) c.args.self.now.before c.args.self.now.time c.args.self.now.next c.args.self.now.limit c.args.self.now.tasks.slots c.args.key c.args.interval c.in-Some.task.now c.run.new.self c.requires (sym c.in-Some.ensures.value) c.if-interval-eq0.false c.run.ensures;
}

pub returns-in-None : goal.returns-in-None
returns-in-None g c = record {
  answer = table.starts_no_task (timed g.H.Handler) c.args.self.now.before c.args.self.now.time c.args.self.now.next c.args.self.now.limit c.args.self.now.tasks.slots c.args.key c.args.interval c.requires (sym c.in-None.ensures.value);
  started = table.no_task_table (timed g.H.Handler) c.args.self.now.before c.args.self.now.time c.args.self.now.next c.args.self.now.limit c.args.self.now.tasks.slots c.args.key c.args.interval c.requires (sym c.in-None.ensures.value);
}
