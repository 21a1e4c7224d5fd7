use Rattle.std.proofs.Common.{◌≡◌, take}
use Rattle.std.specs.List.{concat}
use Rattle.pm_trace.specs.Step.{core_lines, notices_in}
use Rattle.pm_c.proofs.telling.lines_of.Given as goal

abbrev pub invariant-loop-k : goal.invariant-loop-k
invariant-loop-k l =
    l.lines.items ≡ concat (take l.k (core_lines l.number l.controller.outbox.done.items (notices_in l.controller.outbox) l.controller.outbox.answer))
