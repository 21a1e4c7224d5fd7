-- A call that takes nothing down has one stage at most.
use Rattle.std.proofs.Common.{◌≡◌, ℕ, Bool, true, false, List, [], ◌∷◌, refl}
use Rattle.pm_base.specs.declared.names.NodeId.{NodeId}
use Rattle.pm_ipi.specs.declared.calls.Call.{Call}
use Rattle.pm_ipi.specs.declared.calls.Call.TheVariants.{ForcePowerdown, SystemShutdown}
use Rattle.pm_calls.specs.Checks.{Cause, Fits, Stands, first_failing}
use Rattle.pm_state.specs.Prims.{Prim}
use Rattle.pm_state.specs.State.{State}
use Rattle.pm_calls.specs.Verdict.{stages_by, stages_of}
use Rattle.pm_calls.specs.Shapes.{is_once}
use Rattle.pm_calls.specs.calls.{called, shape_of}
use Rattle.pm_values.proofs.AlongLaw.{HasOneAtMost}

abbrev one_at_most : List (List Prim) → Bool
one_at_most [] = true
one_at_most (stage ∷ []) = true
one_at_most (stage ∷ next ∷ later) = false

has_one : (stages : List (List Prim)) → one_at_most stages ≡ true → HasOneAtMost stages
has_one [] is = tt
has_one (stage ∷ []) is = refl
has_one (stage ∷ next ∷ later) is = cc

by_once : (cause : Cause) (stages : List (List Prim)) → HasOneAtMost stages → HasOneAtMost (stages_by cause stages)
by_once (Stands Fits) stages once = once
by_once _ stages once = tt

each_once : (m : ℕ) (call : Call) (book : State) → is_once (shape_of call) ≡ true → one_at_most (called m call book).stages ≡ true
each_once m (ForcePowerdown node ack) book is = cc
each_once m (SystemShutdown shutdown_type subtype) book is = cc
each_once m _ book is = refl

pub called_once : (m : ℕ) (call : Call) (book : State) → is_once (shape_of call) ≡ true → HasOneAtMost (stages_of (called m call book))
called_once m call book is =
    by_once (first_failing (called m call book).checks) (called m call book).stages
    (has_one (called m call book).stages (each_once m call book is))

-- a call that is neither a force nor a shutdown
pub once_of : (call : Call) → ((node : NodeId) (ack : ℕ) → call ≡ ForcePowerdown node ack → ⊥) → ((shutdown_type subtype : ℕ) → call ≡ SystemShutdown shutdown_type subtype → ⊥) → is_once (shape_of call) ≡ true
once_of (ForcePowerdown node ack) force shutdown = absurd (force node ack refl)
once_of (SystemShutdown shutdown_type subtype) force shutdown = absurd (shutdown shutdown_type subtype refl)
once_of _ force shutdown = refl
