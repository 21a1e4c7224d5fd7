use Rattle.std.proofs.Common.{length, ◌-◌, ◌≤◌, take}
use Rattle.pm_io.specs.Sink.{Wrote}
use Rattle.pm_io.proofs.writing.write_all.Given as goal

abbrev pub invariant-loop-written : goal.invariant-loop-written
invariant-loop-written g l = (l.written ≤ length l.bytes) × Wrote g.K.Sink.observable (take l.written l.bytes) (g.K.Sink.state l.initial.sink) (g.K.Sink.state l.sink)

abbrev pub decreases-loop-written : goal.decreases-loop-written
decreases-loop-written g l = length l.bytes - l.written
