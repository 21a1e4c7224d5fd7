-- The first nine words of a line.
use Rattle.std.proofs.Common.{◌≡◌, ◌≢◌, ℕ, ◌≤◌, ◌<◌, ◌+◌, ◌&&◌, true, false, arith, nat_le, drop, get_or, List, [], ◌∷◌, ◌++◌, length, take, None, Some, slice_get, refl, sym, ◌∙◌, ap}
use Rattle.std.proofs.Math.Seq.{take-append_seam}
use Rattle.std.proofs.lemmas.List.{append-nil, at_drop_more, append_assoc, take_all}
use Rattle.std.specs.List.{list_all}
use Rattle.std.proofs.lemmas.Bool.Decides.{nat_tests}
use Rattle.pm_io.specs.Lines.{is_plain, without_return}
use Rattle.pm_io.specs.Words.{is_blank, words, words_from}
use Rattle.pm_base.proofs.Booleans.{both}
use Rattle.pm_io.proofs.WordTexts.{word_within}
use Rattle.pm_io.proofs.WordsLemmas.{words_from-begin, words_from-between, words_from-comment, words_from-end, words_from-on}

pub words_is : (line : List ℕ) → words line ≡ words_from None 0 (without_return line)
unfolding words
words_is line = refl

-- a word begins at most where it ends, and ends within its line
pub within_line : (line : List ℕ) (k : ℕ) (place : ℕ × ℕ) → slice_get (words line) k ≡ Some place → (place.0 ≤ place.1) × (place.1 ≤ length line)
within_line = word_within

-- what was found, with what is left, is all that there is
module _ {X : Type 0} (found left all : List X) (so_far : found ++ left ≡ all) where
  -- nine were found
  pub nine : length found ≡ 9 → found ≡ take 9 all
  nine full = sym (take-append_seam found left) ∙ ap (λ n. take n (found ++ left)) full ∙ ap (take 9) so_far

  -- no more are left
  pub no_more : left ≡ [] → length found ≤ 9 → found ≡ take 9 all
  no_more none few =
      let whole : found ≡ all = sym (append-nil found) ∙ ap (λ (xs : List X). found ++ xs) (sym none) ∙ so_far in
      sym (take_all 9 found few) ∙ ap (take 9) whole

  -- one more was found
  pub one_more : (x : X) (later : List X) → left ≡ x ∷ later → (found ++ x ∷ []) ++ later ≡ all
  one_more x later is = append_assoc found (x ∷ []) later ∙ ap (λ (xs : List X). found ++ xs) (sym is) ∙ so_far

  -- what is left is told in other words
  pub as_well : (later : List X) → left ≡ later → found ++ later ≡ all
  as_well later is = ap (λ (xs : List X). found ++ xs) (sym is) ∙ so_far

-- a byte that is plain and no blank, and any other
solid_is : (byte : ℕ) → (nat_le 33 byte && nat_le byte 126) ≡ true → (is_plain byte ≡ true) × (is_blank byte ≡ false)
unfolding is_blank
solid_is byte solid = (grind (arith, nat_tests), grind (arith, nat_tests))

unsolid_is : (byte : ℕ) → (nat_le 33 byte && nat_le byte 126) ≡ false → is_plain byte ≡ true → is_blank byte ≡ true
unfolding is_blank
unsolid_is byte unsolid plain = grind (arith, nat_tests)

blank_is : (byte : ℕ) → is_blank byte ≡ true → is_plain byte ≡ true
unfolding is_blank
blank_is byte blank = grind (arith, nat_tests)

sign_is : is_blank 35 ≡ false
unfolding is_blank
sign_is = refl

-- one byte on in a text
module _ (text : List ℕ) (at : ℕ) (within : at < length text) where
  -- past a plain byte
  pub plain_step : is_plain (get_or text at 0) ≡ true → list_all is_plain (drop (at + 1) text) ≡ list_all is_plain (drop at text)
  plain_step plain = sym (at_drop_more (list_all is_plain) text at 0 within ∙ rw plain refl)

  plain_here : list_all is_plain (drop at text) ≡ true → is_plain (get_or text at 0) ≡ true
  plain_here plain = (both (is_plain (get_or text at 0)) (list_all is_plain (drop (at + 1) text)) (sym (at_drop_more (list_all is_plain) text at 0 within) ∙ plain)).0

  -- past a blank
  pub blank_on : is_blank (get_or text at 0) ≡ true
      → (list_all is_plain (drop (at + 1) text) ≡ list_all is_plain (drop at text)) × (words_from None (at + 1) (drop (at + 1) text) ≡ words_from None at (drop at text))
  blank_on blank = (plain_step (blank_is (get_or text at 0) blank), sym (words_from-between text at None within refl blank))

  -- past a byte of a word
  pub solid_on : (nat_le 33 (get_or text at 0) && nat_le (get_or text at 0) 126) ≡ true
      → (list_all is_plain (drop (at + 1) text) ≡ list_all is_plain (drop at text))
      × ((start : ℕ) → words_from (Some start) (at + 1) (drop (at + 1) text) ≡ words_from (Some start) at (drop at text))
  solid_on solid =
      let is = solid_is (get_or text at 0) solid in
      (plain_step is.0, λ start. sym (words_from-on text at (Some start) start within refl is.1))

  -- a word ends before any other byte of a plain text
  pub unsolid_ends : (nat_le 33 (get_or text at 0) && nat_le (get_or text at 0) 126) ≡ false → list_all is_plain (drop at text) ≡ true → (start : ℕ)
      → words_from (Some start) at (drop at text) ≡ (start, at) ∷ words_from None at (drop at text)
  unsolid_ends unsolid plain start =
      let blank = unsolid_is (get_or text at 0) unsolid (plain_here plain) in
      words_from-end text at (Some start) start within refl blank ∙ ap (λ (later : List (ℕ × ℕ)). (start, at) ∷ later) (sym (words_from-between text at None within refl blank))

  -- no word begins there
  pub comment_begins : get_or text at 0 ≡ 35 → words_from None at (drop at text) ≡ []
  comment_begins sign = words_from-comment text at None within refl (rw sign sign_is) sign

  pub unsolid_begins : is_blank (get_or text at 0) ≡ false → (nat_le 33 (get_or text at 0) && nat_le (get_or text at 0) 126) ≡ false
      → list_all is_plain (drop at text) ≡ true → words_from None at (drop at text) ≡ []
  unsolid_begins stops unsolid plain =
      let blank = unsolid_is (get_or text at 0) unsolid (plain_here plain) in
      cc

  -- a word begins there
  pub word_begins : (nat_le 33 (get_or text at 0) && nat_le (get_or text at 0) 126) ≡ true → get_or text at 0 ≢ 35
      → words_from None at (drop at text) ≡ words_from (Some at) (at + 1) (drop (at + 1) text)
  word_begins solid sign = words_from-begin text at None within refl (solid_is (get_or text at 0) solid).1 sign
