-- PM_SELF_SUSPEND (UG1200).
use Rattle.std.specs.Prelude.{ℕ}
use Rattle.pm_base.specs.declared.names.Mode.{Mode}
use Rattle.pm_base.specs.declared.names.Mode.TheVariants.{Off, Active, Asleep, Suspending}
use Rattle.pm_calls.specs.declared.views.ProcView.{ProcView}
use Rattle.pm_calls.specs.Checks.{Checks, Finding, Fits, InUse, WrongMode}
use Rattle.pm_calls.specs.ProcCalls.{by_mode, on_own, proc_changes}
use Rattle.pm_calls.specs.Verdict.{Called, changing}

-- the last check: only an active processor starts to suspend
abbrev pub to_suspend : Mode → Finding
to_suspend Active = Fits
to_suspend Suspending = InUse
to_suspend Asleep = WrongMode
to_suspend Off = WrongMode

-- the node is a processor, it is the caller's, it isn't suspending yet, and it is active
abbrev pub self_suspend_checks : ProcView → Checks
self_suspend_checks view = record (on_own view) { finding = by_mode to_suspend view.own }

-- the call that starts the suspend of the processor, which is to resume at this address
abbrev pub self_suspend : ℕ → ℕ → ProcView → Called
self_suspend m address view = changing (self_suspend_checks view) (proc_changes m Suspending address view)
