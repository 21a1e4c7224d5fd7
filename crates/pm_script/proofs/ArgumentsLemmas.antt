-- The arguments of a line are read one after another.
use Rattle.std.proofs.Common.{◌≡◌, ℕ, zero, suc, ◌+◌, ◌≤◌, List, [], ◌∷◌, ◌++◌, length, drop, Option, Some, None, slice_get, refl, ap, sym, ◌∙◌, arith, append_assoc}
use Rattle.std.proofs.lemmas.List.{drop_all, append-nil}
use Rattle.pm_base.proofs.ListLemmas.{drop_found}
use Rattle.pm_script.specs.declared.forms.Argument.{Argument}
use Rattle.pm_script.specs.declared.forms.Width.{Width}
use Rattle.pm_script.specs.Forms.{argument_of, arguments_of, with_first}

-- arguments before others
abbrev pub with_front : List Argument → Option (List Argument) → Option (List Argument)
with_front front None = None
with_front front (Some rest) = Some (front ++ rest)

with_front-first : (front : List Argument) (argument : Argument) (rest : Option (List Argument)) → with_front front (with_first (Some argument) rest) ≡ with_front (front ++ argument ∷ []) rest
with_front-first front argument None = refl
with_front-first front argument (Some rest) = ap Some (sym (append_assoc front (argument ∷ []) rest))

no_words : (widths : List Width) → arguments_of widths [] ≡ Some []
no_words [] = refl
no_words (width ∷ widths) = refl

past_all : {X : Type 0} (xs : List X) (k : ℕ) → slice_get xs k ≡ None → length xs ≤ k
past_all [] k none = omega arith
past_all (x ∷ xs) zero none = cc
past_all (x ∷ xs) (suc k) none = omega (arith, past_all xs k none)

module _ (widths : List Width) (texts : List (List ℕ)) (k : ℕ) (front : List Argument) (whole : Option (List Argument)) (so_far : with_front front (arguments_of (drop k widths) (drop (k + 1) texts)) ≡ whole) where
  -- one more argument
  pub one_more : (width : Width) (word : List ℕ) (argument : Argument) → slice_get widths k ≡ Some width → slice_get texts (k + 1) ≡ Some word → argument_of width word ≡ Some argument → with_front (front ++ argument ∷ []) (arguments_of (drop (k + 1) widths) (drop (k + 1 + 1) texts)) ≡ whole
  one_more width word argument wide is read =
      let first : arguments_of (drop k widths) (drop (k + 1) texts) ≡ with_first (Some argument) (arguments_of (drop (k + 1) widths) (drop (k + 1 + 1) texts)) = rw (drop_found widths k width wide, drop_found texts (k + 1) word is, read) refl in
      sym (with_front-first front argument (arguments_of (drop (k + 1) widths) (drop (k + 1 + 1) texts))) ∙ ap (with_front front) (sym first) ∙ so_far

  -- a word that is no number of its width
  pub one_bad : (width : Width) (word : List ℕ) → slice_get widths k ≡ Some width → slice_get texts (k + 1) ≡ Some word → argument_of width word ≡ None → whole ≡ None
  one_bad width word wide is read =
      let first : arguments_of (drop k widths) (drop (k + 1) texts) ≡ None = rw (drop_found widths k width wide, drop_found texts (k + 1) word is, read) refl in
      sym so_far ∙ ap (with_front front) first

  -- no further word
  pub no_word : slice_get texts (k + 1) ≡ None → whole ≡ Some front
  no_word none =
      let past : drop (k + 1) texts ≡ [] = drop_all (k + 1) texts (past_all texts (k + 1) none) in
      sym so_far ∙ rw (past, no_words (drop k widths)) (ap Some (append-nil front))

  -- no further width
  pub no_width : length widths ≤ k → whole ≡ Some front
  no_width none = sym so_far ∙ rw (drop_all k widths none) (ap Some (append-nil front))
