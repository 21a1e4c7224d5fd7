use Rattle.std.proofs.Common.{◌∙◌}
use Rattle.pm_controller.proofs.controller.Controller.is_beyond.Goals as goal

pub returns : goal.returns
returns c =
    rw (← c.self.view_is)
    (c.is_message_beyond.ensures c.self.inside.book.fixed (c.as_slice.ensures ∙ c.objects.ensures) c.topology.ensures.topology)
