-- A relation between two lists, place by place.
use Rattle.std.specs.Prelude.{ℕ, ◌+◌, List, [], ◌∷◌, ⊤}

-- two lists are equally long, and at each place their elements are related
abbrev pub Both : {X : Type 0} → (X → X → Type 0) → List X → List X → Type 0
Both R [] [] = ⊤
Both R [] (y ∷ ys) = ⊥
Both R (x ∷ xs) [] = ⊥
Both R (x ∷ xs) (y ∷ ys) = R x y × Both R xs ys

-- the same by a relation that knows the place; the first elements are at place k
abbrev pub BothFrom : {X : Type 0} → (ℕ → X → X → Type 0) → ℕ → List X → List X → Type 0
BothFrom R k [] [] = ⊤
BothFrom R k [] (y ∷ ys) = ⊥
BothFrom R k (x ∷ xs) [] = ⊥
BothFrom R k (x ∷ xs) (y ∷ ys) = R k x y × BothFrom R (k + 1) xs ys
