-- PM_ABORT_SUSPEND (UG1200).
use Rattle.std.specs.Prelude.{ℕ, Bool, true, false, ◌&&◌, nat_le, List, [], if◌then◌else◌, Some}
use Rattle.pm_base.specs.declared.names.Mode.{Mode}
use Rattle.pm_base.specs.declared.names.Mode.TheVariants.{Off, Active, Asleep, Suspending}
use Rattle.pm_calls.specs.declared.verdict.Say.TheVariants.{Abort}
use Rattle.pm_calls.specs.declared.views.ProcView.{ProcView}
use Rattle.pm_calls.specs.Checks.{Checks, Finding, Fits, WrongMode, in_range}
use Rattle.pm_state.specs.Prims.{Prim}
use Rattle.pm_calls.specs.ProcCalls.{is_in, address_in, by_mode, on_own, proc_changes}
use Rattle.pm_calls.specs.Verdict.{Called, changing, saying}

-- the reasons for which a suspend is aborted have the numbers 100 to 103
abbrev pub is_reason : ℕ → Bool
is_reason reason = nat_le 100 reason && nat_le reason 103

-- the last check: a suspending processor goes on, and an active one refuses a request that is pending on the caller
abbrev pub to_abort : (pending : Bool) → Mode → Finding
to_abort pending Suspending = Fits
to_abort true Active = Fits
to_abort false Active = WrongMode
to_abort pending Asleep = WrongMode
to_abort pending Off = WrongMode

-- the node is a processor, the reason is known, the processor is the caller's, and there is something to abort
abbrev pub abort_checks : ℕ → Bool → ProcView → Checks
abort_checks reason pending view =
    record (on_own view) { arguments = in_range (is_reason reason); finding = by_mode (to_abort pending) view.own }

-- a processor that is suspending is active again, and keeps its resume address
abbrev pub goes_on : ℕ → ProcView → List Prim
goes_on m view = if is_in Suspending view then proc_changes m Active (address_in view) view else []

-- the call with the end of a request that is pending on the caller
abbrev pub abort_suspend : ℕ → ℕ → Bool → ProcView → Called
abort_suspend m reason pending view =
    record (changing (abort_checks reason pending view) (goes_on m view)) { effects = saying (Some (Abort m)) }
