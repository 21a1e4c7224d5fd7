-- What a line means, by its form.
use Rattle.std.proofs.Common.{◌≡◌, ℕ, ◌-◌, ◌≤◌, Bool, true, false, Option, Some, List, [], ◌∷◌, length, refl, arith, slice_get, ◌∙◌, ap, Err, drop, map, nat_le, sym}
use Rattle.std.proofs.lemmas.Bool.Decides.{nat_tests}
use Rattle.std.proofs.lemmas.List.{length-map}
use Rattle.pm_io.specs.Words.{words, word_texts, text_between}
use Rattle.pm_script.specs.declared.meaning.LineFault.TheVariants.{Count}
use Rattle.pm_script.specs.Forms.{Row, row_with}
use Rattle.pm_script.specs.Meaning.{form_meaning, found_meaning, words_meaning}

count_after_first : {X Y : Type 0} (f : X → Y) (xs : List X) → length (drop 1 (map f xs)) ≡ length xs - 1
count_after_first f [] = refl
count_after_first f (x ∷ xs) = length-map xs f ∙ omega arith

-- a line has one argument less than it has words
pub count_arguments : (line : List ℕ) → length (drop 1 (word_texts line)) ≡ length (words line) - 1
count_arguments line = count_after_first (text_between line) (words line)

-- too few or too many
pub miscounted : (row : Row) (texts : List (List ℕ)) → ((row.least ≤ length texts) × (length texts ≤ length row.widths) → ⊥) → form_meaning row texts ≡ Err Count
miscounted row texts not = by (nat_le row.least (length texts)) (nat_le (length texts) (length row.widths)) refl refl
  where
    by : (few many : Bool) → nat_le row.least (length texts) ≡ few → nat_le (length texts) (length row.widths) ≡ many → form_meaning row texts ≡ Err Count
    by true true enough few = absurd (not (grind (arith, nat_tests), grind (arith, nat_tests)))
    by false many enough few = rw enough refl
    by true false enough few = rw (enough, few) refl

-- the first word says which row
first_means : (texts : List (List ℕ)) (word : List ℕ) → slice_get texts 0 ≡ Some word → words_meaning texts ≡ found_meaning (row_with word) word (drop 1 texts)
first_means [] word is = cc
first_means (text ∷ texts) word is = let same : text ≡ word = cc in ap (λ (w : List ℕ). found_meaning (row_with w) w texts) same

-- a line with a form means what its form says
pub row_means : (texts : List (List ℕ)) (word : List ℕ) (row : Option Row) → slice_get texts 0 ≡ Some word → row ≡ row_with word → found_meaning row word (drop 1 texts) ≡ words_meaning texts
row_means texts word row is found = ap (λ (r : Option Row). found_meaning r word (drop 1 texts)) found ∙ sym (first_means texts word is)
