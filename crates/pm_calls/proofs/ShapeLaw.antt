-- A call equals the call of its shape.
use Rattle.std.proofs.Common.{◌≡◌, ℕ, refl}
use Rattle.pm_ipi.specs.declared.calls.Call.{Call}
use Rattle.pm_ipi.specs.declared.calls.Call.TheVariants.{GetApiVersion}
use Rattle.pm_state.specs.State.{State}
use Rattle.pm_calls.specs.Shapes.{shaped}
use Rattle.pm_calls.specs.calls.{called, shape_of}

pub called_shaped : (m : ℕ) (call : Call) (book : State) → called m call book ≡ shaped m (shape_of call) book
called_shaped m GetApiVersion book = refl
called_shaped m _ book = refl
