-- The words of the program.
use Rattle.std.specs.Prelude.{ℕ, List, [], get_or}

-- the word at a place
abbrev pub word : ℕ → List (List ℕ) → List ℕ
word k words = get_or words k []
