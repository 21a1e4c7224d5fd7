-- PM_GET_API_VERSION (UG1200).
use Rattle.std.specs.Prelude.{ℕ, [], ◌∷◌}
use Rattle.pm_calls.specs.Checks.{unchecked}
use Rattle.pm_calls.specs.Verdict.{Called, effecting, told}

-- version 1.1: the major number in the upper half of the word
abbrev pub api_version : ℕ
api_version = 65537

-- the call that tells the version; it has no checks
abbrev pub get_api_version : Called
get_api_version = effecting unchecked (told (api_version ∷ 0 ∷ 0 ∷ []))
