-- What a step puts out, and how the sender of a message is answered; beside what an event does to the book.
use Rattle.std.specs.Prelude.{◌==◌, Bool, true, not, [], ◌∷◌, length, Option, Some, None}
use Rattle.pm_base.specs.declared.names.NodeId.{NodeId}
use Rattle.pm_base.specs.declared.events.Event.{Event}
use Rattle.pm_ipi.specs.declared.calls.Call.{Call}
use Rattle.pm_ipi.specs.declared.calls.AckKind.{AckKind}
use Rattle.pm_ipi.specs.declared.calls.AckKind.TheVariants.{No, Blocking, NonBlocking}
use Rattle.pm_ipi.specs.declared.responses.Response.{Response}
use Rattle.pm_ipi.specs.Calls.{ack_of, node_of}
use Rattle.pm_procs.specs.Modes.{is_awake}
use Rattle.pm_core.specs.declared.replies.Answer.{Answer}
use Rattle.pm_core.specs.declared.replies.Answer.TheVariants.{Silent, Drop, Reply, Ack}
use Rattle.pm_tell.specs.declared.served.Served.{Served}
use Rattle.pm_calls.specs.declared.verdict.Verdict.{Verdict}
use Rattle.pm_calls.specs.declared.verdict.Verdict.TheVariants.{Dropped, Refused, Accepted}
use Rattle.pm_tell.specs.Callbacks.{callbacks, late_replies}
use Rattle.pm_core.specs.Outbox.{Outputs}
use Rattle.pm_state.specs.Changes.{Written, nothing_written, written_along}
use Rattle.pm_state.specs.Stages.{after_stages}
use Rattle.pm_values.specs.Starts.{starts, was_down}
use Rattle.pm_state.specs.State.{State}
use Rattle.pm_state.specs.Units.{moved}
use Rattle.pm_state.specs.Values.{value, point}
use Rattle.pm_calls.specs.Verdict.{response_of}
use Rattle.pm_state.specs.Nodes.{master_mode}
use Rattle.pm_tell.specs.Telling.{notes_after}
pub use Rattle.pm_step.specs.Step.{may_call, call_at, call_in, verdict, message_stages, is_ipi, configures, unless_halted, stages, path, served, says, asks, renews, pulse, time_of, ended, forgets, opening, notices, news, modes_in, talk, effect, is_refused}

-- how a response reaches the caller, by the acknowledge kind of the call, in the book after it: the callback is
-- written where the caller is active or suspending then
abbrev pub acknowledged : AckKind → NodeId → NodeId → Response → State → Answer
acknowledged No master node response after = Silent
acknowledged Blocking master node response after = Reply master response
acknowledged NonBlocking master node response after =
    Ack master node response.status (point node after) (is_awake (master_mode master after))

-- a response that is given now
abbrev pub answered : Option Response → NodeId → Call → State → Answer
answered None master call after = Silent
answered (Some response) master call after = acknowledged (ack_of call) master (node_of call) response after

-- what the sender of a message gets by the verdict on it: one that asked another master to suspend is answered when
-- that ends
abbrev pub answer_of : Verdict → NodeId → Call → State → Answer
answer_of Dropped master call after = Drop master
answer_of (Refused response) master call after = answered (response_of (Refused response)) master call after
answer_of (Accepted effects) master call after = answered (response_of (Accepted effects)) master call after

-- the answer to an event, in the book after it
abbrev pub answer_by : Option Served → State → Answer
answer_by None after = Silent
answer_by (Some served) after = answer_of served.verdict served.master served.call after

-- the answer to an event
abbrev pub answer_to : Event → State → Answer
answer_to event book = answer_by (served event book) (effect event book)

-- what a step puts out: the units whose value it changes, the reset line that it pulses, the processors that it
-- starts, what other masters are told, and the answer
abbrev pub outputs : Event → State → Outputs
outputs event book = record {
  moved = moved (λ u. value u book) (effect event book);
  pulse = pulse event book;
  starts = starts (was_down (book ∷ path event book)) (effect event book);
  late = late_replies (ended event book) (effect event book);
  callbacks = callbacks (news event book) (modes_in book)
      (notes_after (opening event book) (after_stages (stages event book) book)) (effect event book);
  answer = answer_to event book;
}

-- nothing is written down of the step of a book yet
abbrev pub nothing_of : State → Written
nothing_of book =
    nothing_written (length book.fixed.topology.slaves) (length book.now.core.procs) (length book.fixed.topology.lines)
    (length book.fixed.object.masters)

-- a processor goes to a mode in a step: it is written down
abbrev pub turns_proc : Event → State → Bool
turns_proc event book = not (length (written_along (stages event book) book (nothing_of book)).procs.list == 0)

-- what the load puts out: before it all values are 0, and all processors are off
abbrev pub outputs_at_load : State → Outputs
outputs_at_load book = record {
  moved = moved (λ u. 0) book;
  pulse = None;
  starts = starts (λ p. true) book;
  late = [];
  callbacks = [];
  answer = Silent;
}
