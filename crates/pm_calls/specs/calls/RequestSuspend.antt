-- PM_REQUEST_SUSPEND (UG1200).
use Rattle.std.specs.Prelude.{ℕ, Bool, true, false, is_some, Option, Some, None, option_map}
use Rattle.pm_base.specs.declared.names.NodeId.{NodeId}
use Rattle.pm_base.specs.declared.names.Mode.{Mode}
use Rattle.pm_base.specs.declared.names.Mode.TheVariants.{Off, Active, Asleep, Suspending}
use Rattle.pm_procs.specs.Pending.{request_of}
use Rattle.pm_ipi.specs.Calls.{ack_kind, kind_or_reply}
use Rattle.pm_calls.specs.declared.verdict.Asked.{Asked}
use Rattle.pm_calls.specs.declared.verdict.Say.{Say}
use Rattle.pm_calls.specs.declared.verdict.Say.TheVariants.{Ask}
use Rattle.pm_calls.specs.declared.views.SuspendView.{SuspendView}
use Rattle.pm_calls.specs.declared.views.Suspendable.{Suspendable}
use Rattle.pm_calls.specs.Checks.{Checks, Finding, Fits, InUse, WrongMode, unchecked}
use Rattle.pm_calls.specs.Verdict.{Called, effecting, saying}

-- the last check: no request is pending on the target yet, and it is active
abbrev pub to_ask : (pending : Bool) → Mode → Finding
to_ask true mode = InUse
to_ask false Active = Fits
to_ask false Suspending = WrongMode
to_ask false Asleep = WrongMode
to_ask false Off = WrongMode

abbrev pub to_suspend_other : Option Suspendable → Finding
to_suspend_other None = Fits
to_suspend_other (Some target) = to_ask target.pending target.mode

-- the acknowledge kind is known, the node can name a master, the caller may ask that master to suspend, none has done so yet,
-- and it is active
abbrev pub request_suspend_checks : ℕ → SuspendView → Checks
request_suspend_checks ack view = record unchecked {
  acknowledge = is_some (ack_kind ack);
  node = view.named;
  permitted = is_some view.target;
  finding = to_suspend_other view.target;
}

-- the request to the target: the caller's words, and the timeout that the object gives the target
abbrev pub asked_of : ℕ → NodeId → (ack latency state : ℕ) → Suspendable → Asked
asked_of m node ack latency state target = record {
  target = target.master;
  request = request_of m (kind_or_reply (ack_kind ack)) node target.timeout;
  latency = latency;
  state = state;
  timeout = target.timeout;
}

abbrev pub target_asked : ℕ → NodeId → (ack latency state : ℕ) → Suspendable → Say
target_asked m node ack latency state target = Ask (asked_of m node ack latency state target)

abbrev pub request_suspend : ℕ → NodeId → (ack latency state : ℕ) → SuspendView → Called
request_suspend m node ack latency state view =
    effecting (request_suspend_checks ack view) (saying (option_map (target_asked m node ack latency state) view.target))
