use Rattle.std.proofs.Common.{◌≡◌, ℕ, Some, length, slice_get}
use Rattle.pm_state.specs.Below.{below_of}
use Rattle.pm_state.specs.declared.below.Below.{Below}
use Rattle.pm_state.proofs.below.all_below.Given as goal

-- so far it is what is below the power nodes with the places before this one
abbrev pub invariant-loop-w : goal.invariant-loop-w
invariant-loop-w l = record {
  count : length l.all ≡ l.w;
  each : (w : ℕ) (below : Below) → slice_get l.all w ≡ Some below → below ≡ below_of l.t w;
}
