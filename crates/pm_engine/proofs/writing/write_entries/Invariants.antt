use Rattle.std.proofs.Common.{take}
use Rattle.std.specs.List.{concat}
use Rattle.pm_io.specs.Sink.{Wrote}
use Rattle.pm_trace.specs.Step.{core_lines, notices_in}
use Rattle.pm_engine.proofs.writing.write_entries.Given as goal

abbrev pub invariant-loop-done : goal.invariant-loop-done
invariant-loop-done g l = Wrote g.O.Sink.observable (concat (take l.done-index (core_lines l.number l.outbox.done.items (notices_in l.outbox) l.answer))) (g.O.Sink.state l.fn.out) (g.O.Sink.state l.out)

abbrev pub invariant-loop-k : goal.invariant-loop-k
invariant-loop-k g l = Wrote g.O.Sink.observable (concat (take l.k (core_lines l.number l.outbox.done.items (notices_in l.outbox) l.answer))) (g.O.Sink.state l.fn.out) (g.O.Sink.state l.out)
