use Rattle.pm_controller.proofs.StepLemmas.{is_next}
use Rattle.pm_controller.proofs.controller.Controller.next_command.Goals as goal

pub returns-clause-next : goal.returns-clause-next
returns-clause-next c =
    let inside = c.self.inside in
    rw (← c.self.view_is)
    (is_next (record { book = inside.book; kept = inside.kept; outbox = inside.outbox; left = inside.left; waits = inside.waits }) c.self.invariant.1)
