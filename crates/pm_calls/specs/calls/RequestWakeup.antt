-- PM_REQUEST_WAKEUP (UG1200).
use Rattle.std.specs.Prelude.{ℕ, is_some, unwrap_or, List, [], ◌∷◌, Option, Some, None}
use Rattle.pm_base.specs.declared.names.Mode.{Mode}
use Rattle.pm_base.specs.declared.names.Mode.TheVariants.{Off, Active, Asleep, Suspending}
use Rattle.pm_ipi.specs.Calls.{ack_kind}
use Rattle.pm_calls.specs.declared.views.WakeView.{WakeView}
use Rattle.pm_calls.specs.declared.views.Wakeable.{Wakeable}
use Rattle.pm_calls.specs.Checks.{Checks, Finding, Fits, WrongMode, unchecked}
use Rattle.pm_state.specs.Prims.{Prim, Put_proc}
use Rattle.pm_calls.specs.Verdict.{Called, changing}

-- a processor wakes unless it is active
abbrev pub to_wake : Mode → Finding
to_wake Active = WrongMode
to_wake Suspending = Fits
to_wake Asleep = Fits
to_wake Off = Fits

abbrev pub to_wake_other : Option Wakeable → Finding
to_wake_other None = Fits
to_wake_other (Some target) = to_wake target.proc.mode

-- the acknowledge kind is known, the node is a processor, the caller may wake it, and it isn't active
abbrev pub request_wakeup_checks : ℕ → WakeView → Checks
request_wakeup_checks ack view = record unchecked {
  acknowledge = is_some (ack_kind ack);
  node = is_some view.place;
  permitted = is_some view.target;
  finding = to_wake_other view.target;
}

-- the change: the processor is active, and resumes at this address; without an address at its own, which is 0 after
-- it was off
abbrev pub woken_to : Option ℕ → Option ℕ → Option Wakeable → List Prim
woken_to address (Some p) (Some target) = Put_proc target.owner p Active (unwrap_or address target.proc.address) ∷ []
woken_to address (Some p) None = []
woken_to address None target = []

abbrev pub request_wakeup : Option ℕ → ℕ → WakeView → Called
request_wakeup address ack view = changing (request_wakeup_checks ack view) (woken_to address view.place view.target)
