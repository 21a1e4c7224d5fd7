-- A list in the middle of a pass.
use Rattle.std.specs.Prelude.{ℕ, List, ◌++◌, map, take, drop}

-- the elements before place k as they are afterwards, and the others as they were
abbrev pub midway : {X Y : Type 0} → (X → Y) → (X → Y) → ℕ → List X → List Y
midway f g k xs = map f (take k xs) ++ map g (drop k xs)
