-- PM_GET_OP_CHARACTERISTIC (UG1200).
use Rattle.std.specs.Prelude.{ℕ, Bool, not, ◌==◌, ◌||◌, if◌then◌else◌, is_some, [], ◌∷◌, Option}
use Rattle.std.specs.Option.{option_map_or}
use Rattle.pm_calls.specs.declared.characteristics.Characteristics.{Characteristics}
use Rattle.pm_calls.specs.Checks.{Checks, in_range, unchecked}
use Rattle.pm_calls.specs.Verdict.{Called, effecting, told}

-- 1 is the power figure, 2 the temperature, and 3 the latency
abbrev pub is_characteristic : ℕ → Bool
is_characteristic characteristic = (characteristic == 1) || ((characteristic == 2) || (characteristic == 3))

-- any node has characteristics, the characteristic is known, and it isn't the temperature; no permission is needed
abbrev pub get_op_characteristic_checks : ℕ → Option Characteristics → Checks
get_op_characteristic_checks characteristic view = record unchecked {
  node = is_some view;
  arguments = in_range (is_characteristic characteristic);
  capable = not (characteristic == 2);
}

-- the power figure or the latency
abbrev pub characteristic_of : ℕ → Characteristics → ℕ
characteristic_of characteristic has = if characteristic == 1 then has.figure else has.latency

-- the call that tells the power figure or the latency of the node in its present state
abbrev pub get_op_characteristic : ℕ → Option Characteristics → Called
get_op_characteristic characteristic view =
    effecting (get_op_characteristic_checks characteristic view)
    (told (option_map_or (characteristic_of characteristic) view 0 ∷ 0 ∷ 0 ∷ []))
