use Rattle.std.proofs.Common.{take}
use Rattle.std.specs.List.{concat}
use Rattle.pm_io.specs.Sink.{Wrote}
use Rattle.pm_isolate.specs.Within.{mark_lines}
use Rattle.pm_isolate.proofs.writing.write_marks.Given as goal

abbrev pub invariant-loop-place : goal.invariant-loop-place
invariant-loop-place g l = Wrote g.O.Sink.observable (concat (take l.place (mark_lines l.worlds))) (g.O.Sink.state l.fn.out) (g.O.Sink.state l.out)
