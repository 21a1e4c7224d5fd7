-- The stages of a message: those of its call, or none.
use Rattle.std.proofs.Common.{ℕ, Bool, true, false, if◌then◌else◌, List, [], Option, Some, None}
use Rattle.std.specs.Prelude.{option_and_then}
use Rattle.pm_ipi.specs.declared.calls.Call.{Call}
use Rattle.pm_state.specs.Prims.{Prim}
use Rattle.pm_state.specs.State.{State}
use Rattle.pm_calls.specs.Checks.{Cause, Fits, Stands, first_failing}
use Rattle.pm_calls.specs.Verdict.{stages_by}
use Rattle.pm_calls.specs.calls.{called}
use Rattle.pm_step.specs.Step.{call_at, may_call, message_stages}

-- what holds of no stage, and of those that the call has once its checks hold, holds of the stages of its message
module _ (P : List (List Prim) → Type 0) (none : P []) where
  by_cause : (cause : Cause) (stages : List (List Prim)) → P stages → P (stages_by cause stages)
  by_cause (Stands Fits) stages holds = holds
  by_cause _ stages holds = none

  by_heard : (call : Call) (book : State) (m : ℕ) (heard : Bool) → P (called m call book).stages → P (message_stages (if heard then Some (called m call book) else None))
  by_heard call book m true holds = by_cause (first_failing (called m call book).checks) (called m call book).stages holds
  by_heard call book m false holds = none

  pub of_message : (call : Call) (book : State) (place : Option ℕ) → ((m : ℕ) → P (called m call book).stages) → P (message_stages (option_and_then (call_at call book) place))
  of_message call book None holds = none
  of_message call book (Some m) holds = by_heard call book m (may_call m book) (holds m)
