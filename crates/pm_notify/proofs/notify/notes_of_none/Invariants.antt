use Rattle.std.proofs.Common.{◌≡◌}
use Rattle.pm_notify.specs.Notify.{loaded}
use Rattle.pm_notify.proofs.notify.notes_of_none.Given as goal

abbrev pub invariant-loop-master : goal.invariant-loop-master
invariant-loop-master l = l.notes.items ≡ loaded l.t l._master
