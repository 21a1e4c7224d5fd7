-- The numbers of a line are read one after another.
use Rattle.std.proofs.Common.{◌≡◌, ℕ, zero, suc, ◌+◌, ◌<◌, ◌≤◌, List, [], ◌∷◌, ◌++◌, length, drop, length-drop, Option, Some, None, slice_get, refl, ap, sym, ◌∙◌, arith, append_assoc}
use Rattle.std.proofs.lemmas.Bool.Decides.{nat_tests}
use Rattle.std.proofs.lemmas.List.{drop_all, append-nil}
use Rattle.std.proofs.lemmas.Option.{slice_get_within}
use Rattle.std.specs.Option.{option_map}
use Rattle.pm_base.proofs.ListLemmas.{drop_found}
use Rattle.pm_io.specs.Numbers.{greatest_number, numbers_in}
use Rattle.pm_objtext.specs.Reading.{number, numbers}

-- numbers before others
abbrev pub with_front : List ℕ → Option (List ℕ) → Option (List ℕ)
with_front front None = None
with_front front (Some ns) = Some (front ++ ns)

with_front-first : (front : List ℕ) (n : ℕ) (read : Option (List ℕ)) → with_front front (option_map (λ (ns : List ℕ). n ∷ ns) read) ≡ with_front (front ++ n ∷ []) read
with_front-first front n None = refl
with_front-first front n (Some ns) = ap Some (sym (append_assoc front (n ∷ []) ns))

module _ (texts : List (List ℕ)) (k : ℕ) (front : List ℕ) (whole : Option (List ℕ)) (so_far : with_front front (numbers_in greatest_number (drop k texts)) ≡ whole) where
  -- one more number
  pub numbers_more : (word : List ℕ) (n : ℕ) → slice_get texts k ≡ Some word → number word ≡ Some n → with_front (front ++ n ∷ []) (numbers_in greatest_number (drop (k + 1) texts)) ≡ whole
  numbers_more word n is read =
      let first : numbers_in greatest_number (drop k texts) ≡ option_map (λ (ns : List ℕ). n ∷ ns) (numbers_in greatest_number (drop (k + 1) texts)) = rw (drop_found texts k word is, read) refl in
      sym (with_front-first front n (numbers_in greatest_number (drop (k + 1) texts))) ∙ ap (with_front front) (sym first) ∙ so_far

  -- a word that is none
  pub numbers_bad : (word : List ℕ) → slice_get texts k ≡ Some word → number word ≡ None → whole ≡ None
  numbers_bad word is read =
      let first : numbers_in greatest_number (drop k texts) ≡ None = rw (drop_found texts k word is, read) refl in
      sym so_far ∙ ap (with_front front) first

numbers-none : (words : List (List ℕ)) → numbers_in greatest_number words ≡ None → numbers words ≡ None
unfolding numbers
numbers-none words none = rw none (grind (arith, nat_tests))

pub numbers_refused : (texts : List (List ℕ)) (k : ℕ) (front : List ℕ) (word : List ℕ) → with_front front (numbers_in greatest_number (drop k texts)) ≡ numbers_in greatest_number (drop 1 texts) → slice_get texts k ≡ Some word → number word ≡ None → numbers (drop 1 texts) ≡ None
numbers_refused texts k front word so_far is read = numbers-none (drop 1 texts) (numbers_bad texts k front (numbers_in greatest_number (drop 1 texts)) so_far word is read)

-- a word after sixteen numbers
pub numbers_many : (texts : List (List ℕ)) (k : ℕ) (word : List ℕ) → slice_get texts k ≡ Some word → k ≡ 17 → numbers (drop 1 texts) ≡ None
unfolding numbers
numbers_many texts k word is many =
    let within : k < length texts = slice_get_within texts k word is in
    let long : 16 < length (drop 1 texts) = omega (arith, length-drop 1 texts) in
    grind (arith, nat_tests)

past_all : {X : Type 0} (xs : List X) (k : ℕ) → slice_get xs k ≡ None → length xs ≤ k
past_all [] k none = omega arith
past_all (x ∷ xs) zero none = cc
past_all (x ∷ xs) (suc k) none = omega (arith, past_all xs k none)

-- no further word
pub numbers_end : (texts : List (List ℕ)) (k : ℕ) (front : List ℕ) → with_front front (numbers_in greatest_number (drop k texts)) ≡ numbers_in greatest_number (drop 1 texts) → slice_get texts k ≡ None → k ≡ length front + 1 → length front ≤ 16 → numbers (drop 1 texts) ≡ Some front
unfolding numbers
numbers_end texts k front so_far none count few =
    let past : length texts ≤ k = past_all texts k none in
    let short : length (drop 1 texts) ≤ 16 = omega (arith, length-drop 1 texts) in
    let all : numbers_in greatest_number (drop 1 texts) ≡ Some (front ++ []) = sym so_far ∙ rw (drop_all k texts past) refl in
    rw (all, append-nil) (grind (arith, nat_tests))
