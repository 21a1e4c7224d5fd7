use Rattle.std.proofs.Common.{◌∙◌, ap}
use Rattle.std.specs.Prelude.{is_some}
use Rattle.pm_handle.specs.Handle.{IsWaiting}
use Rattle.pm_handle.proofs.HeldLemmas.{found, is_there}
use Rattle.pm_c.proofs.telling.write_held.Goals as goal

pub returns-then-is_some-clause-left : goal.returns-then-is_some-clause-left
returns-then-is_some-clause-left c = λ _.
    found (λ controller. controller.value) IsWaiting _ _ _ c.in-Some.is c.deref.ensures (is_there _ (c.if-is_some.ensures ∙ ap is_some c.next_command.ensures.waits))
