-- Digits and their value.
use Rattle.std.proofs.Common.{◌≡◌, ℕ, ◌+◌, ◌*◌, ◌<◌, ◌≤◌, List, [], ◌∷◌, None, Some, arith, le_refl, le_trans, mul-le-mul_left}
use Rattle.std.proofs.lemmas.Bool.Decides.{nat_tests}
use Rattle.std.specs.Char.{digit_value}
use Rattle.std.specs.Str.Parse.{digits_value, digits_value_after}
use Rattle.pm_io.specs.Numbers.{value_of, at_most}

-- more digits only make the value larger
pub digits_value_after-ge : (base total : ℕ) (digits : List ℕ) → 1 ≤ base → total ≤ digits_value_after base total digits
digits_value_after-ge base total [] some = le_refl total
digits_value_after-ge base total (digit ∷ digits) some =
    let step : total ≤ total * base + digit_value digit = omega (arith, mul-le-mul_left total some) in
    le_trans step (digits_value_after-ge base (total * base + digit_value digit) digits some)

-- no number above the greatest one is answered
pub at_most-above : (greatest base : ℕ) (digits : List ℕ) → greatest < digits_value base digits → at_most greatest (value_of base digits) ≡ None
at_most-above greatest base digits above = grind (arith, nat_tests)

-- a sum that isn't answered is above the greatest one
pub at_most-refused : (greatest value : ℕ) → None ≡ at_most greatest (Some value) → greatest < value
at_most-refused greatest value refused = grind (arith, nat_tests)
