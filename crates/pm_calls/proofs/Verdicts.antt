-- A call does something only if all of its seven checks hold.
use Rattle.std.proofs.Common.{◌≡◌, ℕ, Bool, true, false, List, [], Option, Some, None, refl, ap, inl, inr, ◌⊎◌}
use Rattle.std.specs.Prelude.{option_map}
use Rattle.pm_calls.specs.declared.verdict.Effects.{Effects}
use Rattle.pm_calls.specs.declared.verdict.Say.{Say}
use Rattle.pm_calls.specs.Checks.{AllHold, Cause, Checks, Finding, Fits, InUse, NotUsed, Stands, UsedBy, WrongMode, first_failing, in_range}
use Rattle.pm_state.specs.Prims.{Prim}
use Rattle.pm_calls.specs.Verdict.{Called, says_of, stages_by, stages_of, verdict_by, verdict_of}

-- ---- the first check that fails

hold_by : (known acknowledge node : Bool) (arguments : Option (List ℕ)) (permitted capable : Bool) (finding : Finding)
    → first_failing (record { known = known; acknowledge = acknowledge; node = node; arguments = arguments; permitted = permitted; capable = capable; finding = finding }) ≡ Stands Fits
    → AllHold (record { known = known; acknowledge = acknowledge; node = node; arguments = arguments; permitted = permitted; capable = capable; finding = finding })
hold_by true true true None true true Fits is =
    record { known = refl; acknowledge = refl; node = refl; arguments = refl; permitted = refl; capable = refl; finding = refl }
hold_by true true true None true true NotUsed is = cc
hold_by true true true None true true InUse is = cc
hold_by true true true None true true (UsedBy other) is = cc
hold_by true true true None true true WrongMode is = cc
hold_by false acknowledge node arguments permitted capable finding is = cc
hold_by true false node arguments permitted capable finding is = cc
hold_by true true false arguments permitted capable finding is = cc
hold_by true true true (Some words) permitted capable finding is = cc
hold_by true true true None false capable finding is = cc
hold_by true true true None true false finding is = cc

-- if none fails all hold
pub all_hold : (checks : Checks) → first_failing checks ≡ Stands Fits → AllHold checks
all_hold checks = hold_by checks.known checks.acknowledge checks.node checks.arguments checks.permitted checks.capable checks.finding

pub none_fails : (checks : Checks) → AllHold checks → first_failing checks ≡ Stands Fits
none_fails checks all = cc (all.known, all.acknowledge, all.node, all.arguments, all.permitted, all.capable, all.finding)

fits_or_not : (cause : Cause) (stages : List (List Prim)) → (cause ≡ Stands Fits) ⊎ (stages_by cause stages ≡ [])
fits_or_not (Stands Fits) stages = inl refl
fits_or_not _ stages = inr refl

-- ---- the stages of a call

pub stages_either : (call : Called) → (AllHold call.checks × (stages_of call ≡ call.stages)) ⊎ (stages_of call ≡ [])
stages_either call = elim (fits_or_not (first_failing call.checks) call.stages) [
  | inl fits ↦ inl (all_hold call.checks fits, ap (λ cause. stages_by cause call.stages) fits)
  | inr none ↦ inr none
]

-- a call with a check that fails has no stages
pub none_done : (call : Called) → (AllHold call.checks → ⊥) → stages_of call ≡ []
none_done call fails = elim (fits_or_not (first_failing call.checks) call.stages) [
  | inl fits ↦ absurd (fails (all_hold call.checks fits))
  | inr none ↦ none
]

-- a call without stages has none after its checks either
nothing_by : (cause : Cause) (stages : List (List Prim)) → stages ≡ [] → stages_by cause stages ≡ []
nothing_by (Stands Fits) stages none = none
nothing_by _ stages none = refl

pub nothing_done : (call : Called) → call.stages ≡ [] → stages_of call ≡ []
nothing_done call none = nothing_by (first_failing call.checks) call.stages none

-- ---- what single checks say

pub clash : {X : Type 0} (holds : Bool) → holds ≡ true → holds ≡ false → X
clash true is isnt = cc
clash false is isnt = cc

pub ranged : (holds : Bool) → in_range holds ≡ None → holds ≡ true
ranged true is = refl
ranged false is = cc

-- ---- what a call has the masters told

says_by : (P : Option Say → Type 0) (cause : Cause) (effects : Effects) → P None → P effects.says → P (says_of (verdict_by cause effects))
says_by P (Stands Fits) effects none said = said
says_by P _ effects none said = none

-- a property of nothing, and of what a call would have told, holds of what it has told
pub says_either : (P : Option Say → Type 0) (call : Called) → P None → P call.effects.says → P (says_of (verdict_of call))
says_either P call none said = says_by P (first_failing call.checks) call.effects none said

pub mapped : {X : Type 0} (P : Option Say → Type 0) (f : X → Say) (o : Option X) → P None → ((x : X) → P (Some (f x))) → P (option_map f o)
mapped P f None none some = none
mapped P f (Some x) none some = some x
