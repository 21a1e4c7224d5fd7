-- The lines of a text and the bytes of a line: the same for every text of the project and for its scripts.
use Rattle.std.specs.Prelude.{ℕ, ◌-◌, Bool, ◌&&◌, ◌||◌, List, [], ◌∷◌, length, take, ◌==◌, nat_lt, nat_le, if◌then◌else◌, slice_index}
use Rattle.std.specs.List.{list_all, slice_split}
use Rattle.pm_io.specs.declared.lines.Ending.{Ending}
use Rattle.pm_io.specs.declared.lines.Ending.TheVariants.{Whole, Cut}

-- the parts of a text between its line feeds. The last part has no line feed
abbrev pub parts_of : List ℕ → List (List ℕ)
parts_of text = slice_split (λ byte. byte == 10) text

-- every part that a line feed ends is a line, and the last part is one where it has `least` bytes or more
abbrev pub lines_of_parts : ℕ → List (List ℕ) → List (List ℕ)
lines_of_parts least [] = []
lines_of_parts least (last ∷ []) = if nat_lt (length last) least then [] else last ∷ []
lines_of_parts least (part ∷ next ∷ parts) = part ∷ lines_of_parts least (next ∷ parts)

-- how many bytes the last part has at least, where it is a line. In a whole text it is one unless it is empty. In a text
-- that breaks off it is one only where it is too long for a line already
abbrev pub least_length : Ending → ℕ
least_length Whole = 1
least_length Cut = 256

-- the lines of a text
abbrev pub lines : Ending → List ℕ → List (List ℕ)
lines ending text = lines_of_parts (least_length ending) (parts_of text)

-- the lines of a whole text, and those of a text that breaks off
abbrev pub lines_of : List ℕ → List (List ℕ)
lines_of text = lines Whole text

abbrev pub lines_before : List ℕ → List (List ℕ)
lines_before text = lines Cut text

-- one carriage return at a line's end is no part of what it says
abbrev pub without_return : List ℕ → List ℕ
without_return line = if slice_index line (length line - 1) == 13 then take (length line - 1) line else line

-- a byte that may stand in a line: a tab or a printable one
abbrev pub is_plain : ℕ → Bool
is_plain byte = (byte == 9) || (nat_le 32 byte && nat_le byte 126)

-- a line has less than 256 bytes without its line feed, and is plain, its comment too
abbrev pub is_readable : List ℕ → Bool
is_readable line = nat_lt (length line) 256 && list_all is_plain (without_return line)
