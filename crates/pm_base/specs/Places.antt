-- Places in lists.
use Rattle.std.specs.Prelude.{ℕ, ◌==◌, Bool, false, List, Option, Some, None}
use Rattle.std.specs.List.{list_any}

-- there is a place, and it is this one
abbrev pub is_place : ℕ → Option ℕ → Bool
is_place m None = false
is_place m (Some k) = k == m

-- one of these places is this one
abbrev pub has_place : List ℕ → ℕ → Bool
has_place places k = list_any (λ p. p == k) places
