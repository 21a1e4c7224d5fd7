-- A line of output is made of its words one after another.
use Rattle.std.proofs.Common.{◌≡◌, ◌∙◌, ℕ, zero, suc, ◌+◌, ◌-◌, ◌*◌, ◌/◌, ◌%◌, ◌<◌, ◌≤◌, Bool, true, ◌&&◌, T, eqb, List, [], ◌∷◌, ◌++◌, length, get_or, map, refl, ap, sym, append-nil, append_assoc, inl, inr, arith, eq-zero-or-pos, eqb→eq}
use lib.Ieee.Fits.{and_l, and_r}
use Rattle.std.specs.Prelude.{decimal, drop}
use Rattle.std.proofs.lemmas.Fmt.{decimal_digit, decimal_step}
use Rattle.std.proofs.lemmas.List.{drop_all}
use Rattle.std.specs.List.{join_with_byte, flat_map}
use Rattle.pm_trace.specs.declared.line.Word.{Word}
use Rattle.pm_trace.specs.declared.line.TheConstants.{PAIRS}
use Rattle.pm_trace.specs.Line.{after_space, line_text, spaced, word_text}

pub line_of : (first : Word) (rest : List Word) → line_text (first ∷ rest) ≡ (word_text first ++ flat_map after_space rest) ++ 10 ∷ []
line_of first rest = ap (λ words. words ++ 10 ∷ []) (joined first rest)
  where
    joined : (first : Word) (rest : List Word) → join_with_byte 32 (map word_text (first ∷ rest)) ≡ word_text first ++ flat_map after_space rest
    joined first [] = sym (append-nil (word_text first))
    joined first (next ∷ rest) = ap (λ bytes. word_text first ++ 32 ∷ bytes) (joined next rest)

-- the first word, the others, each with the space before it, and the line feed
pub line_is : (first : Word) (rest : List Word) → line_text (first ∷ rest) ≡ word_text first ++ spaced rest (10 ∷ [])
line_is first [] = refl
line_is first (next ∷ rest) =
    append_assoc (word_text first) (32 ∷ join_with_byte 32 (map word_text (next ∷ rest))) (10 ∷ [])
    ∙ ap (λ bytes. word_text first ++ 32 ∷ bytes) (line_is next rest)

-- words before others
pub spaced-append : (words more : List Word) (rest : List ℕ) → spaced (words ++ more) rest ≡ spaced words (spaced more rest)
spaced-append [] more rest = refl
spaced-append (word ∷ words) more rest = ap (λ bytes. after_space word ++ bytes) (spaced-append words more rest)

-- words before what follows them
pub spaced-later : (words : List Word) (rest later : List ℕ) → spaced words rest ++ later ≡ spaced words (rest ++ later)
spaced-later [] rest later = refl
spaced-later (word ∷ words) rest later =
    append_assoc (after_space word) (spaced words rest) later ∙ ap (λ bytes. after_space word ++ bytes) (spaced-later words rest later)

-- a line before what follows it
pub line_before : (first : Word) (rest : List Word) (later : List ℕ) → line_text (first ∷ rest) ++ later ≡ word_text first ++ spaced rest (10 ∷ later)
line_before first rest later =
    ap (λ bytes. bytes ++ later) (line_is first rest)
    ∙ append_assoc (word_text first) (spaced rest (10 ∷ [])) later
    ∙ ap (λ bytes. word_text first ++ bytes) (spaced-later rest (10 ∷ []) later)

-- a line at the end of a text
pub at_end : (size : ℕ) (text line bytes : List ℕ) → length text ≤ size → bytes ≡ line ++ drop size text → bytes ≡ line
at_end size text line bytes short is = is ∙ ap (λ later. line ++ later) (drop_all size text short) ∙ append-nil line

-- the digits of each number below this one are in the table of pairs
abbrev are_pairs : ℕ → Bool
are_pairs zero = true
are_pairs (suc n) = (eqb (get_or PAIRS (2 * n) 0) (48 + n / 10) && eqb (get_or PAIRS (2 * n + 1) 0) (48 + n % 10)) && are_pairs n

pair_below : (most n : ℕ) → T (are_pairs most) → n < most → (get_or PAIRS (2 * n) 0 ≡ 48 + n / 10) × (get_or PAIRS (2 * n + 1) 0 ≡ 48 + n % 10)
pair_below zero n held below = absurd (omega (arith, below))
pair_below (suc most) n held below =
    elim (eq-zero-or-pos (most - n)) [
      | inl none ↦
          let same : n ≡ most = omega (arith, none, below) in
          let both = and_l _ (are_pairs most) held in
          rw same (eqb→eq _ _ (and_l _ _ both), eqb→eq _ _ (and_r _ _ both))
      | inr some ↦ pair_below most n (and_r _ (are_pairs most) held) (omega (arith, some))
    ]

pub pair_at : (n : ℕ) → n < 100 → (get_or PAIRS (2 * n) 0 ≡ 48 + n / 10) × (get_or PAIRS (2 * n + 1) 0 ≡ 48 + n % 10)
pair_at n below = pair_below 100 n tt below

-- a number of two digits
pub decimal_pair : (n : ℕ) → 10 ≤ n → n < 100 → decimal n ≡ get_or PAIRS (2 * n) 0 ∷ get_or PAIRS (2 * n + 1) 0 ∷ []
decimal_pair n from to =
    let pair = pair_at n to in
    rw (decimal_step n from (omega (arith, to)), decimal_digit (n / 10) (omega (arith, to)), pair.0, pair.1) refl
