-- The words of a line: the same for every text of the project and for its scripts.
use Rattle.std.specs.Prelude.{ℕ, ◌+◌, ◌==◌, ◌||◌, Bool, if◌then◌else◌, List, [], ◌∷◌, Option, Some, None, map, slice_range}
pub use Rattle.pm_io.specs.Lines.{without_return}

-- a space or a tab stands between words
unfoldable pub is_blank : ℕ → Bool
is_blank byte = (byte == 32) || (byte == 9)

-- the words of what is left of a line, each by its first place and the place after its end: `at` is the place of the
-- next byte, and a word that has begun is given by its first place. A number sign where a word would begin begins a comment
abbrev pub words_from : Option ℕ → ℕ → List ℕ → List (ℕ × ℕ)
words_from None at [] = []
words_from None at (byte ∷ bytes) =
    if is_blank byte then words_from None (at + 1) bytes
    else (if byte == 35 then [] else words_from (Some at) (at + 1) bytes)
words_from (Some start) at [] = (start, at) ∷ []
words_from (Some start) at (byte ∷ bytes) =
    if is_blank byte then (start, at) ∷ words_from None (at + 1) bytes
    else words_from (Some start) (at + 1) bytes

-- the words of a line in order, without its comment, and without one carriage return at its end
unfoldable pub words : List ℕ → List (ℕ × ℕ)
words line = words_from None 0 (without_return line)

-- the bytes between two places of a line
abbrev pub text_between : List ℕ → ℕ × ℕ → List ℕ
text_between line place = slice_range line place.0 place.1

-- the words of a line as texts
abbrev pub word_texts : List ℕ → List (List ℕ)
word_texts line = map (text_between line) (words line)
