-- A loop that writes f x over each element x of a list, one after another.
use Rattle.std.proofs.Common.{◌≡◌, ℕ, ◌+◌, ◌<◌, List, ◌++◌, length, take, drop, map, set, get_or}
use Rattle.std.proofs.lemmas.List.Edits.{map_over_more}

-- one turn of the loop: the element at place i is read as x and written as y
pub map_step : {X : Type 0} (f : X → X) (xs ys : List X) (i : ℕ) (x y : X) → i < length xs → ys ≡ map f (take i xs) ++ drop i xs → x ≡ get_or ys i x → y ≡ f x → set ys i y ≡ map f (take (i + 1) xs) ++ drop (i + 1) xs
map_step f xs ys i x y within so_far is written = rw written (map_over_more f xs ys i x within so_far is)
