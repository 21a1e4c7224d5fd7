-- What is done with a message besides the changes of the core half: what the masters are told, the reset line that is
-- pulsed, and what waits for its sender.
use Rattle.std.specs.Prelude.{ℕ, List, [], ◌∷◌, map, Option, Some, None, if◌then◌else◌}
use Rattle.pm_base.specs.declared.names.LineId.{LineId}
use Rattle.pm_base.specs.declared.names.Mode.TheVariants.{Asleep}
use Rattle.pm_base.specs.declared.names.NodeId.{NodeId}
use Rattle.pm_ipi.specs.Calls.{ack_of, node_of}
use Rattle.pm_ipi.specs.declared.calls.AckKind.{AckKind}
use Rattle.pm_ipi.specs.declared.calls.AckKind.TheVariants.{No, Blocking, NonBlocking}
use Rattle.pm_ipi.specs.declared.responses.Response.{Response}
use Rattle.pm_notify.specs.declared.notes.Note.TheVariants.{Ack}
use Rattle.pm_notify.specs.declared.notes.Waiting.{Waiting}
use Rattle.pm_procs.specs.Modes.{same_mode}
use Rattle.pm_tell.specs.declared.served.Served.{Served}
use Rattle.pm_calls.specs.declared.verdict.Say.{Say}
use Rattle.pm_state.specs.Members.{mode_of_master}
use Rattle.pm_state.specs.State.{State}
use Rattle.pm_state.specs.Talk.{Talk, wait_of}
use Rattle.pm_state.specs.Values.{master_place}
use Rattle.pm_calls.specs.Verdict.{pulse_of, response_of, says_of}

-- what the masters are told by a message, if there is one
abbrev pub says_in : Option Served → Option Say
says_in None = None
says_in (Some served) = says_of served.verdict

-- the reset line that it pulses
abbrev pub pulse_in : Option Served → Option LineId
pulse_in None = None
pulse_in (Some served) = pulse_of served.verdict

-- the acknowledgement of a call as a note, where its caller wants the callback
abbrev pub acknowledged_as : AckKind → NodeId → ℕ → List Waiting
acknowledged_as No node status = []
acknowledged_as Blocking node status = []
acknowledged_as NonBlocking node status = record { node = node; note = Ack status } ∷ []

-- and is answered now
abbrev pub own_note : Option Response → AckKind → NodeId → List Waiting
own_note None ack node = []
own_note (Some response) ack node = acknowledged_as ack node response.status

-- it waits for the caller, which has this place, where that is asleep
abbrev pub kept_at : Option ℕ → List Waiting → State → List Talk
kept_at None notes after = []
kept_at (Some m) notes after =
    if same_mode (mode_of_master after.fixed after.now.core m) Asleep then map (wait_of m) notes else []

-- what waits for the sender of a message that is asleep after it: the acknowledgement of its call
abbrev pub kept_of : Option Served → State → List Talk
kept_of None after = []
kept_of (Some served) after =
    kept_at (master_place served.master after)
    (own_note (response_of served.verdict) (ack_of served.call) (node_of served.call)) after
