-- PM_INIT_FINALIZE (UG1200).
use Rattle.std.specs.Prelude.{ℕ, [], ◌∷◌}
use Rattle.pm_calls.specs.Checks.{unchecked}
use Rattle.pm_state.specs.Prims.{Settle}
use Rattle.pm_calls.specs.Verdict.{Called, changing}

-- the call that drops the caller's holds; it has no checks
abbrev pub init_finalize : ℕ → Called
init_finalize m = changing unchecked (Settle m ∷ [])
