-- The number that a word stands for: the same for every text of the project and for the words of a command line.
use Rattle.std.specs.Prelude.{ℕ, ◌==◌, ◌&&◌, nat_lt, nat_le, if◌then◌else◌, List, [], ◌∷◌, Option, Some, None, length, drop, option_and_then, slice_index}
use Rattle.std.specs.Char.{is_digit}
use Rattle.std.specs.List.{list_all}
use Rattle.std.specs.Option.{option_map}
use Rattle.std.specs.Str.Parse.{digits_value}

-- the value of one digit or more in this base. Letters of either case are the digits from 10 on
abbrev pub value_of : ℕ → List ℕ → Option ℕ
value_of base digits =
    if nat_lt 0 (length digits) && list_all (λ byte. is_digit byte base) digits then Some (digits_value base digits) else None

-- a number is decimal digits, or `0x` and hexadecimal digits; leading zeros change nothing
abbrev pub number_of : List ℕ → Option ℕ
number_of word =
    if (slice_index word 0 == 48) && (slice_index word 1 == 120) then value_of 16 (drop 2 word)
    else value_of 10 word

-- the greatest number of 32 bits
abbrev pub greatest_number : ℕ
greatest_number = 4294967295

-- a value that is at most the greatest one
abbrev pub at_most : ℕ → Option ℕ → Option ℕ
at_most greatest None = None
at_most greatest (Some value) = if nat_le value greatest then Some value else None

-- all of these words as numbers that are at most the greatest one
abbrev pub numbers_in : ℕ → List (List ℕ) → Option (List ℕ)
numbers_in greatest [] = Some []
numbers_in greatest (word ∷ words) =
    option_and_then (λ n. option_map (λ (ns : List ℕ). n ∷ ns) (numbers_in greatest words)) (at_most greatest (number_of word))
