use Rattle.std.proofs.Common.{length}
use Rattle.pm_modules.specs.Modules.{ranges}
use Rattle.pm_split.specs.Left.{events_left}
use Rattle.pm_replay.proofs.CoresLemmas.{IsUnderWay}
use Rattle.pm_replay.proofs.lines.run_split.Given as goal

abbrev pub invariant-loop-core : goal.invariant-loop-core
invariant-loop-core g l = IsUnderWay g.O.Sink g.D.Device l.number l.event (ranges g.H.Responder l.modules) l.left l.fn.engine l.engine l.reply l.written l.fn.out l.out l.initial.dev l.dev

abbrev pub decreases-loop-core : goal.decreases-loop-core
decreases-loop-core g l = length (events_left l.fn.engine.book.fixed.object l.fn.engine.book.fixed.topology l.engine.boxes l.left)
