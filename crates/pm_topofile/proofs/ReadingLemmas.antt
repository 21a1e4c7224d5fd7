-- The numbers of a line are read one after another, and its words are counted.
use Rattle.std.proofs.Common.{◌≡◌, ℕ, zero, suc, ◌+◌, ◌≤◌, List, [], ◌∷◌, ◌++◌, length, drop, Option, Some, None, slice_get, refl, ap, sym, ◌∙◌, arith, append_assoc}
use Rattle.std.specs.Option.{option_map}
use Rattle.std.proofs.lemmas.List.{drop_all, append-nil}
use Rattle.pm_base.proofs.ListLemmas.{drop_found}
use Rattle.pm_io.specs.Numbers.{greatest_number, numbers_in}
use Rattle.pm_topofile.specs.Reading.{number}

-- numbers before others
abbrev pub with_front : List ℕ → Option (List ℕ) → Option (List ℕ)
with_front front None = None
with_front front (Some ns) = Some (front ++ ns)

with_front-first : (front : List ℕ) (n : ℕ) (read : Option (List ℕ)) → with_front front (option_map (λ (ns : List ℕ). n ∷ ns) read) ≡ with_front (front ++ n ∷ []) read
with_front-first front n None = refl
with_front-first front n (Some ns) = ap Some (sym (append_assoc front (n ∷ []) ns))

module _ (texts : List (List ℕ)) (k : ℕ) (front : List ℕ) (whole : Option (List ℕ)) (so_far : with_front front (numbers_in greatest_number (drop k texts)) ≡ whole) where
  -- one more number
  pub numbers_more : (word : List ℕ) (n : ℕ) → slice_get texts k ≡ Some word → number greatest_number word ≡ Some n → with_front (front ++ n ∷ []) (numbers_in greatest_number (drop (k + 1) texts)) ≡ whole
  numbers_more word n is read =
      let first : numbers_in greatest_number (drop k texts) ≡ option_map (λ (ns : List ℕ). n ∷ ns) (numbers_in greatest_number (drop (k + 1) texts)) = rw (drop_found texts k word is, read) refl in
      sym (with_front-first front n (numbers_in greatest_number (drop (k + 1) texts))) ∙ ap (with_front front) (sym first) ∙ so_far

  -- a word that is none
  pub numbers_bad : (word : List ℕ) → slice_get texts k ≡ Some word → number greatest_number word ≡ None → whole ≡ None
  numbers_bad word is read =
      let first : numbers_in greatest_number (drop k texts) ≡ None = rw (drop_found texts k word is, read) refl in
      sym so_far ∙ ap (with_front front) first

  -- no further word
  pub numbers_end : length texts ≤ k → whole ≡ Some front
  numbers_end past =
      sym so_far ∙ rw (drop_all k texts past, append-nil) refl

pub past_all : {X : Type 0} (xs : List X) (k : ℕ) → slice_get xs k ≡ None → length xs ≤ k
past_all [] k none = omega arith
past_all (x ∷ xs) zero none = cc
past_all (x ∷ xs) (suc k) none = omega (arith, past_all xs k none)
