-- The words of what is left of a line, one byte on: a case for each kind of byte.
use Rattle.std.proofs.Common.{◌≡◌, ◌≢◌, ℕ, zero, suc, sub-one, arith, ◌+◌, ◌-◌, ◌<◌, ◌≤◌, true, false, eqb, List, [], ◌∷◌, length, get_or, drop, Option, Some, None, refl, sym, ap, ◌∙◌}
use Rattle.std.specs.Prelude.{slice_get}
use Rattle.std.proofs.lemmas.Bool.Decides.{nat_tests}
use Rattle.std.proofs.lemmas.List.{at_drop_more, at_drop_all}
use Rattle.pm_io.specs.Words.{is_blank, words_from}

-- a blank stands between words
pub words_from-between : (text : List ℕ) (at : ℕ) (start : Option ℕ) → at < length text → start ≡ None → is_blank (get_or text at 0) ≡ true → words_from start at (drop at text) ≡ words_from None (at + 1) (drop (at + 1) text)
words_from-between text at start within begun blank = at_drop_more (words_from start at) text at 0 within ∙ rw (begun, blank) refl

-- a comment is no word, and nothing after it is
pub words_from-comment : (text : List ℕ) (at : ℕ) (start : Option ℕ) → at < length text → start ≡ None → is_blank (get_or text at 0) ≡ false → get_or text at 0 ≡ 35 → words_from start at (drop at text) ≡ []
words_from-comment text at start within begun blank sign = at_drop_more (words_from start at) text at 0 within ∙ rw (begun, blank, sign) refl

-- a word begins
pub words_from-begin : (text : List ℕ) (at : ℕ) (start : Option ℕ) → at < length text → start ≡ None → is_blank (get_or text at 0) ≡ false → get_or text at 0 ≢ 35 → words_from start at (drop at text) ≡ words_from (Some at) (at + 1) (drop (at + 1) text)
words_from-begin text at start within begun blank sign =
    let plain : eqb (get_or text at 0) 35 ≡ false = grind (arith, nat_tests) in
    at_drop_more (words_from start at) text at 0 within ∙ rw (begun, blank, plain) refl

-- a word ends before a blank
pub words_from-end : (text : List ℕ) (at : ℕ) (start : Option ℕ) (first : ℕ) → at < length text → start ≡ Some first → is_blank (get_or text at 0) ≡ true → words_from start at (drop at text) ≡ (first, at) ∷ words_from None (at + 1) (drop (at + 1) text)
words_from-end text at start first within begun blank = at_drop_more (words_from start at) text at 0 within ∙ rw (begun, blank) refl

-- a word goes on
pub words_from-on : (text : List ℕ) (at : ℕ) (start : Option ℕ) (first : ℕ) → at < length text → start ≡ Some first → is_blank (get_or text at 0) ≡ false → words_from start at (drop at text) ≡ words_from (Some first) (at + 1) (drop (at + 1) text)
words_from-on text at start first within begun blank = at_drop_more (words_from start at) text at 0 within ∙ rw (begun, blank) refl

-- the text ends between words
pub words_from-none : (text : List ℕ) (at : ℕ) (start : Option ℕ) → length text ≤ at → start ≡ None → words_from start at (drop at text) ≡ []
words_from-none text at start past begun = at_drop_all (words_from start at) text at past ∙ rw begun refl

-- the text ends a word
pub words_from-last : (text : List ℕ) (at : ℕ) (start : Option ℕ) (first : ℕ) → length text ≤ at → at ≤ length text → start ≡ Some first → words_from start at (drop at text) ≡ (first, length text) ∷ []
words_from-last text at start first past within begun =
    let end : at ≡ length text = omega arith in
    at_drop_all (words_from start at) text at past ∙ rw (begun, end) refl

-- past the first of a list
slice_get-later : {X : Type 0} (x : X) (xs : List X) (k : ℕ) → k ≢ 0 → slice_get (x ∷ xs) k ≡ slice_get xs (k - 1)
slice_get-later x xs zero later = absurd (later refl)
slice_get-later x xs (suc k) later = rw sub-one refl

-- what is answered of the words that are left, as it is answered of all of them
module _ {X : Type 0} (xs : List X) (k : ℕ) (whole : Option X) (left : slice_get xs k ≡ whole) where
  pub answer-none : xs ≡ [] → None ≡ whole
  answer-none is = sym (ap (λ (ys : List X). slice_get ys k) is) ∙ left

  pub answer-first : (x : X) (others : List X) → xs ≡ x ∷ others → k ≡ 0 → Some x ≡ whole
  answer-first x others is here = sym (ap (λ (ys : List X). slice_get ys k) is ∙ ap (λ n. slice_get (x ∷ others) n) here) ∙ left

  pub answer-later : (x : X) (others : List X) → xs ≡ x ∷ others → k ≢ 0 → slice_get others (k - 1) ≡ whole
  answer-later x others is later = sym (ap (λ (ys : List X). slice_get ys k) is ∙ slice_get-later x others k later) ∙ left
