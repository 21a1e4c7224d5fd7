use Rattle.std.proofs.Common.{refl}
use Rattle.pm_tasks.specs.Stored.{timed}
use Rattle.pm_tasks.proofs.Tables as table
use Rattle.pm_tasks.proofs.tasks.TasksOf.add.Goals as goal

pub returns-then-len-self-clause-full : goal.returns-then-len-self-clause-full
returns-then-len-self-clause-full g c = (λ _. table.is_full (timed g.H.Handler) c.args.self.now.before c.args.self.now.time c.args.self.now.next c.args.self.now.limit c.args.self.now.tasks.slots c.len.result c.requires c.if-len-self.true c.len.ensures c.args.self.now.within, λ _. refl)

pub returns-clause-full : goal.returns-clause-full
returns-clause-full g c = (λ wrong. cc, λ same. table.has_room (timed g.H.Handler) c.args.self.now.before c.args.self.now.time c.args.self.now.next c.args.self.now.limit c.args.self.now.tasks.slots c.len.result c.requires c.if-len-self.false c.len.ensures same)

pub returns-clause-added : goal.returns-clause-added
returns-clause-added g c = table.added_table (timed g.H.Handler) c.args.self.now.before c.args.self.now.time c.args.self.now.next c.args.self.now.limit c.args.self.now.tasks.slots c.insert_reserved.result _ _ c.insert_reserved.new.self.slots c.requires c.insert_reserved.ensures.was_vacant c.insert_reserved.ensures.updates.changed c.insert_reserved.ensures.updates.others c.insert_reserved.ensures.len refl
