-- The reads of a controller, in the numbers of C.
use Rattle.std.specs.Prelude.{◌≡◌, ℕ, Bool, Some, None, option_map}
use Rattle.pm_base.specs.declared.events.Message.{Message}
use Rattle.pm_base.specs.declared.names.NodeId.{NodeId}
use Rattle.pm_controller.specs.declared.status.NodeStatus.{NodeStatus}
use Rattle.pm_controller.specs.Beyond.{is_beyond}
use Rattle.pm_controller.specs.Controls.{Controls}
use Rattle.pm_controller.specs.Status.{status_of}
use Rattle.pm_c.specs.declared.held_reads.StatusWords.{StatusWords}

-- the status of a node in three words
abbrev pub status_words : NodeStatus → StatusWords
status_words status =
    record { state = status.state; requirement = status.requirement.0; usage = status.usage }

-- these words are the status of the node for this master
pub record IsStatus (master node : NodeId) (words : StatusWords) (c : Controls) : Type 0 where
  pub is : option_map status_words (status_of master node c.book) ≡ Some words

-- there is no status: the chip has no such node, or the object no such master
pub record HasNoStatus (master node : NodeId) (c : Controls) : Type 0 where
  pub none : status_of master node c.book ≡ None

-- whether a message of the sender is beyond the reach of the master
pub record IsBeyond (of sender : NodeId) (message : Message) (beyond : Bool) (c : Controls) : Type 0 where
  pub is : beyond ≡ is_beyond of sender message c
