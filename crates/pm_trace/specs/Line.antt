-- The lines of output: their words and bytes.
use Rattle.std.specs.Prelude.{ℕ, ◌+◌, List, [], ◌∷◌, ◌++◌, map, length, decimal}
use Rattle.std.specs.Fmt.{signed_decimal}
use Rattle.std.specs.List.{join_with_byte}
use Rattle.pm_trace.specs.declared.line.Word.{Word}
use Rattle.pm_trace.specs.declared.line.Word.TheVariants.{Number, Address, Signed, Name}

-- the bytes of a word
abbrev pub word_text : Word → List ℕ
word_text (Number n) = decimal n
word_text (Address address) = decimal address
word_text (Signed code) = signed_decimal code
word_text (Name name) = name

-- the most bytes that a word has: an address has 64 bits, a number 32, and a signed one a sign
abbrev pub width : Word → ℕ
width (Address address) = 20
width (Number n) = 10
width (Signed code) = 11
width (Name name) = length name

-- the most bytes that these words have, each with a space before it
abbrev pub widths : List Word → ℕ
widths [] = 0
widths (word ∷ words) = width word + 1 + widths words

-- numbers as words
abbrev pub numbers : List ℕ → List Word
numbers values = map Number values

-- a word that isn't the first of its line, with the space before it
abbrev pub after_space : Word → List ℕ
after_space word = 32 ∷ word_text word

-- words, each with a space before it, and then these bytes
abbrev pub spaced : List Word → List ℕ → List ℕ
spaced [] rest = rest
spaced (word ∷ words) rest = after_space word ++ spaced words rest

-- a line: its words with one space between them, and a line feed at the end
abbrev pub line_text : List Word → List ℕ
line_text words = join_with_byte 32 (map word_text words) ++ 10 ∷ []

-- contracts see the bytes of a line of output
pub record LineBytes : Type 0 where
  pub items : List ℕ
