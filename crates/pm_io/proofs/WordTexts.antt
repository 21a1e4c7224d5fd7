-- The places of a line's words, and their texts.
use Rattle.std.proofs.Common.{◌≡◌, ℕ, ◌+◌, ◌-◌, ◌≤◌, ◌==◌, Bool, true, false, Option, Some, None, List, [], ◌∷◌, length, take, arith, if◌then◌else◌, slice_get, IfSome, suc, zero, subst, slice_index, option_map, ap, ◌∙◌}
use Rattle.std.proofs.lemmas.Grind.{common_steps}
use Rattle.std.proofs.lemmas.Option.{slice_get-map}
use Rattle.pm_io.specs.Lines.{without_return}
use Rattle.pm_io.specs.Words.{words, words_from, is_blank, word_texts, text_between}

-- each of these places lies before an end, and begins at most at its own end
abbrev AllWithin : ℕ → List (ℕ × ℕ) → Type 0
AllWithin end [] = Unit {0}
AllWithin end (place ∷ places) = (place.0 ≤ place.1) × (place.1 ≤ end) × AllWithin end places

-- whichever place is taken
between_words : (end : ℕ) (blank comment : Bool) (more word : List (ℕ × ℕ)) → AllWithin end more → AllWithin end word → AllWithin end (if blank then more else (if comment then [] else word))
between_words end true comment more word m w = m
between_words end false true more word m w = tt
between_words end false false more word m w = w

inside_word : (end : ℕ) (blank : Bool) (ended word : List (ℕ × ℕ)) → AllWithin end ended → AllWithin end word → AllWithin end (if blank then ended else word)
inside_word end true ended word e w = e
inside_word end false ended word e w = w

words_from-within : (start : Option ℕ) (at : ℕ) (bytes : List ℕ) (end : ℕ) → IfSome start (λ first. first ≤ at) → at + length bytes ≤ end → AllWithin end (words_from start at bytes)
words_from-within None at [] end begun fits = tt
words_from-within None at (byte ∷ bytes) end begun fits =
    between_words end (is_blank byte) (byte == 35) _ _ (words_from-within None (at + 1) bytes end tt (omega arith)) (words_from-within (Some at) (at + 1) bytes end (omega arith) (omega arith))
words_from-within (Some start) at [] end begun fits = (begun, omega arith, tt)
words_from-within (Some start) at (byte ∷ bytes) end begun fits =
    inside_word end (is_blank byte) _ _ (begun, omega arith, words_from-within None (at + 1) bytes end tt (omega arith)) (words_from-within (Some start) (at + 1) bytes end (omega arith) (omega arith))

place_within : (end : ℕ) (places : List (ℕ × ℕ)) (k : ℕ) (place : ℕ × ℕ) → AllWithin end places → slice_get places k ≡ Some place → (place.0 ≤ place.1) × (place.1 ≤ end)
place_within end [] k place all is = cc
place_within end (first ∷ places) zero place all is = let same : first ≡ place = cc in let P : ℕ × ℕ → Type 0 = λ p. (p.0 ≤ p.1) × (p.1 ≤ end) in subst P same (all.0, all.1)
place_within end (first ∷ places) (suc k) place all is = place_within end places k place all.2 is

shorter : (line : List ℕ) (b : Bool) → length (if b then take (length line - 1) line else line) ≤ length line
shorter line true = grind (arith, common_steps)
shorter line false = omega arith

-- a word begins at most where it ends, and ends within its line
pub word_within : (line : List ℕ) (k : ℕ) (place : ℕ × ℕ) → slice_get (words line) k ≡ Some place → (place.0 ≤ place.1) × (place.1 ≤ length line)
unfolding words
word_within line k place is =
    place_within (length line) (words_from None 0 (without_return line)) k place
    (words_from-within None 0 (without_return line) (length line) tt (omega (arith, shorter line (slice_index line (length line - 1) == 13)))) is

-- the text of a word
pub word_text_at : (line : List ℕ) (k : ℕ) (place : ℕ × ℕ) → slice_get (words line) k ≡ Some place → slice_get (word_texts line) k ≡ Some (text_between line place)
word_text_at line k place is = slice_get-map (text_between line) (words line) k ∙ ap (option_map (text_between line)) is

pub no_word_text : (line : List ℕ) (k : ℕ) → slice_get (words line) k ≡ None → slice_get (word_texts line) k ≡ None
no_word_text line k none = slice_get-map (text_between line) (words line) k ∙ ap (option_map (text_between line)) none
