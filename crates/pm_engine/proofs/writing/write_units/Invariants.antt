use Rattle.std.proofs.Common.{take}
use Rattle.std.specs.List.{concat}
use Rattle.pm_io.specs.Sink.{Wrote}
use Rattle.pm_trace.specs.Closing.{closing_lines}
use Rattle.pm_engine.proofs.writing.write_units.Given as goal

abbrev pub invariant-loop-k : goal.invariant-loop-k
invariant-loop-k g l = Wrote g.O.Sink.observable (concat (take l.k (closing_lines l.engine.book l.engine.kept))) (g.O.Sink.state l.fn.out) (g.O.Sink.state l.out)
