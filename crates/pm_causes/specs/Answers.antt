-- The messages that are dropped, and those that get no answer, by the step alone. If a command fails on a device, the
-- layer that gives the commands decides about an answer of 0.
use Rattle.std.specs.Prelude.{◌≡◌, ◌⊎◌, ⊤, ℕ, Bool, true, false, Option, Some, None}
use Rattle.pm_base.specs.declared.events.Event.{Event}
use Rattle.pm_base.specs.declared.events.Event.TheVariants.{Ipi}
use Rattle.pm_base.specs.declared.names.Mode.TheVariants.{Off, Active, Asleep, Suspending}
use Rattle.pm_base.specs.declared.names.NodeId.{NodeId}
use Rattle.pm_ipi.specs.declared.calls.Call.{Call}
use Rattle.pm_ipi.specs.declared.calls.Call.TheVariants.{RequestSuspend}
use Rattle.pm_ipi.specs.Calls.{acknowledge_of, call_of}
use Rattle.pm_core.specs.declared.replies.Answer.{Answer}
use Rattle.pm_core.specs.declared.replies.Answer.TheVariants.{Silent, Drop, Reply, Ack}
use Rattle.pm_calls.specs.Checks.{AllHold}
use Rattle.pm_state.specs.State.{State}
use Rattle.pm_state.specs.Values.{master_place}
use Rattle.pm_state.specs.Nodes.{master_mode}
use Rattle.pm_causes.specs.Causes.{checks_of}

-- ---- who is heard

-- the sender isn't heard: it is no configured master, or that master is asleep or off, or the book is halted
abbrev pub IsUnheard : NodeId → State → Type 0
IsUnheard sender book =
    (master_place sender book ≡ None)
    ⊎ (master_mode sender book ≡ Asleep)
    ⊎ (master_mode sender book ≡ Off)
    ⊎ (book.now.core.halted ≡ true)

-- this sender is heard: it is the configured master at place m, which is active or suspending, and the book isn't halted
pub record IsHeard (sender : NodeId) (m : ℕ) (book : State) : Type 0 where
  pub place : master_place sender book ≡ Some m
  pub mode : (master_mode sender book ≡ Active) ⊎ (master_mode sender book ≡ Suspending)
  pub running : book.now.core.halted ≡ false

-- the event is a message of this master, which isn't heard
abbrev pub IsDropped : NodeId → Event → State → Type 0
IsDropped master (Ipi sender message) book = (sender ≡ master) × IsUnheard sender book
IsDropped master _ book = ⊥

-- ---- what is answered

-- the call asks a master to suspend
abbrev pub is_request_to_suspend : Call → Bool
is_request_to_suspend (RequestSuspend node ack latency state) = true
is_request_to_suspend _ = false

-- a call without an answer in its step: an accepted request to suspend, which is answered when it ends, or a call
-- with acknowledge kind 1
abbrev pub IsUnanswered : ℕ → Call → State → Type 0
IsUnanswered m call book =
    ((is_request_to_suspend call ≡ true) × AllHold (checks_of m call book)) ⊎ (acknowledge_of call ≡ Some 1)

-- the event is no message, or a heard one without an answer in its step
abbrev pub IsSilent : Event → State → Type 0
IsSilent (Ipi sender message) book = (m : ℕ) × IsHeard sender m book × IsUnanswered m (call_of message) book
IsSilent _ book = ⊤

-- the master that an answer tells a status, and this status
abbrev pub told : Answer → Option (NodeId × ℕ)
told Silent = None
told (Drop master) = None
told (Reply master response) = Some (master, response.status)
told (Ack master node status point shown) = Some (master, status)
