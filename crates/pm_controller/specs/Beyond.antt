-- Which messages are beyond the reach of a master, by the objects of the run and the chip of a controller.
use Rattle.std.specs.Prelude.{Bool}
use Rattle.pm_base.specs.declared.events.Event.TheVariants.{Ipi}
use Rattle.pm_base.specs.declared.events.Message.{Message}
use Rattle.pm_base.specs.declared.names.NodeId.{NodeId}
use Rattle.pm_laws.specs.Answers.{message_beyond}
use Rattle.pm_laws.specs.ReachBorder.{border_of}
use Rattle.pm_controller.specs.Controls.{Controls, chip_of}

-- the sender of a message is beyond the reach of a master, or is no configured master, and so is each node that the message
-- names, or the reset line whose value it asks for
abbrev pub is_beyond : NodeId → NodeId → Message → Controls → Bool
is_beyond of sender message c =
    message_beyond c.book.fixed.object (chip_of c) (border_of c.book.fixed of) (Ipi sender message)
