use Rattle.std.proofs.Common.{length}
use Rattle.pm_state.specs.Values.{value}
use Rattle.pm_apply.specs.Left.{Passes, turns_left}
use Rattle.pm_apply.proofs.carrying.Carrying.next_command.Given as goal

abbrev pub invariant-turns : goal.invariant-turns
invariant-turns l = Passes l.book.fixed.topology (λ u. value u l.book) l.pulse l.kept l.fn.self l.self

abbrev pub decreases-turns : goal.decreases-turns
decreases-turns l = length (turns_left l.book.fixed.topology l.pulse l.self)
