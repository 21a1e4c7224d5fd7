-- PM_RESET_GET_STATUS (UG1200).
use Rattle.std.specs.Prelude.{ℕ, is_some, unwrap_or, [], ◌∷◌, Option}
use Rattle.pm_calls.specs.Checks.{Checks, unchecked}
use Rattle.pm_calls.specs.Verdict.{Called, effecting, told}

-- the chip has the line; no permission is needed
abbrev pub reset_status_checks : Option ℕ → Checks
reset_status_checks value = record unchecked { node = is_some value }

-- the call that tells the value of the line
abbrev pub reset_get_status : Option ℕ → Called
reset_get_status value = effecting (reset_status_checks value) (told (unwrap_or value 0 ∷ 0 ∷ 0 ∷ []))
