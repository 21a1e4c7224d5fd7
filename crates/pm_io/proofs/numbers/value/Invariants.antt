use Rattle.std.proofs.Common.{◌≡◌, ◌≤◌, drop}
use Rattle.std.specs.List.{list_all}
use Rattle.std.specs.Char.{is_digit}
use Rattle.std.specs.Str.Parse.{digits_value, digits_value_after}
use Rattle.pm_io.proofs.numbers.value.Given as goal

-- what is left has the value of all digits, and decides whether all are digits
abbrev pub invariant-digits : goal.invariant-digits
invariant-digits l =
    (l.total ≤ l.greatest) × (digits_value_after l.base l.total (drop l.byte-index l.digits) ≡ digits_value l.base l.digits)
    × (list_all (λ c. is_digit c l.base) (drop l.byte-index l.digits) ≡ list_all (λ c. is_digit c l.base) l.digits)
