-- The numbers of masters (UG1200, nodes).
use Rattle.std.specs.Prelude.{ℕ, Bool, ◌&&◌, ◌||◌, ◌==◌, List, [], ◌∷◌}
use Rattle.std.specs.List.{list_any}

-- the application processors are 1, the real-time processors 6 as a pair in lockstep, or 7 and 8 each alone
abbrev pub master_numbers : List ℕ
master_numbers = 1 ∷ 6 ∷ 7 ∷ 8 ∷ []

abbrev pub is_master_number : ℕ → Bool
is_master_number n = list_any (λ x. x == n) master_numbers

-- the first number is that of one real-time processor alone, and the second that of the pair in lockstep
abbrev pub is_half_of : ℕ → ℕ → Bool
is_half_of half whole = (whole == 6) && ((half == 7) || (half == 8))

-- one number is that of the pair in lockstep, and the other that of one of its two processors alone
abbrev pub splits_lockstep : ℕ → ℕ → Bool
splits_lockstep a b = is_half_of a b || is_half_of b a
