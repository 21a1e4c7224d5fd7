-- The words of a line that is a keyword and further words, with one space between.
use Rattle.std.proofs.Common.{◌≡◌, ℕ, zero, suc, ◌+◌, ◌-◌, ◌*◌, ◌^◌, ◌<◌, ◌≤◌, true, false, eqb, leb, nat_lt, List, [], ◌∷◌, ◌++◌, length, get_or, map, Some, None, decimal, refl, ap, sym, ◌∙◌, arith, append_assoc, length-append, zero-add}
use Rattle.std.specs.List.{flat_map, list_all, AllByRecursion}
use Rattle.std.specs.Char.{digit_value, is_digit}
use Rattle.std.specs.Str.Parse.{AllDigits, IsNumeral, digits_value}
use Rattle.std.proofs.lemmas.Bool.Decides.{nat_tests}
use Rattle.std.proofs.lemmas.List.{length-map}
use Rattle.std.proofs.lemmas.Fmt.{decimal_is_IsNumeral, length-decimal-le}
use Rattle.std.proofs.Math.Bool.{and-false}
use Rattle.std.proofs.Math.Seq.{drop-append_seam, take-append_seam}
use Rattle.pm_io.specs.Lines.{without_return, is_plain, is_readable}
use Rattle.pm_io.specs.Words.{is_blank, words_from, words, word_texts, text_between}
use Rattle.pm_io.specs.Numbers.{greatest_number, number_of, numbers_in}
use Rattle.pm_base.proofs.Elements.{AllByRecursion-append}
use Rattle.pm_objtext.specs.Reading.{number, numbers}

-- ---- bytes

-- a byte of a name or a number: a digit or a letter of lower case, among others
pub record IsPlain (byte : ℕ) : Type 0 where
  pub low : 48 ≤ byte
  pub high : byte ≤ 122

-- a byte of a line
pub record IsLineByte (byte : ℕ) : Type 0 where
  pub low : 32 ≤ byte
  pub high : byte ≤ 122

-- a word of plain bytes
pub record IsWord (word : List ℕ) : Type 0 where
  pub some : 0 < length word
  pub plain : AllByRecursion IsPlain word

plain_not_blank : (byte : ℕ) → IsPlain byte → is_blank byte ≡ false
unfolding is_blank
plain_not_blank byte is = let low = is.low in grind (arith, nat_tests)

space_is_blank : is_blank 32 ≡ true
unfolding is_blank
space_is_blank = refl

plain_no_sign : (byte : ℕ) → IsPlain byte → eqb byte 35 ≡ false
plain_no_sign byte is = let low = is.low in grind (arith, nat_tests)

-- ---- words

word_run : (word rest : List ℕ) (first at : ℕ) → AllByRecursion IsPlain word → words_from (Some first) at (word ++ rest) ≡ words_from (Some first) (at + length word) rest
word_run [] rest first at plain = ap (λ n. words_from (Some first) n rest) (omega arith)
word_run (byte ∷ word) rest first at plain =
    rw (plain_not_blank byte plain.0) (word_run word rest first (at + 1) plain.1 ∙ ap (λ n. words_from (Some first) n rest) (omega arith))

word_begins : (word rest : List ℕ) (at : ℕ) → IsWord word → words_from None at (word ++ rest) ≡ words_from (Some at) (at + length word) rest
word_begins [] rest at is = let some = is.some in absurd (omega arith)
word_begins (byte ∷ word) rest at is =
    rw (plain_not_blank byte is.plain.0, plain_no_sign byte is.plain.0) (word_run word rest at (at + 1) is.plain.1 ∙ ap (λ n. words_from (Some at) n rest) (omega arith))

abbrev pub spaced : List ℕ → List ℕ
spaced word = 32 ∷ word

-- the places of words with a space before each, from a place on
abbrev places : ℕ → List (List ℕ) → List (ℕ × ℕ)
places at [] = []
places at (word ∷ more) = (at + 1, at + 1 + length word) ∷ places (at + 1 + length word) more

words_from-spaced : (more : List (List ℕ)) (first at : ℕ) → AllByRecursion IsWord more → words_from (Some first) at (flat_map spaced more) ≡ (first, at) ∷ places at more
words_from-spaced [] first at are = refl
words_from-spaced (word ∷ more) first at are =
    rw space_is_blank (ap (λ (others : List (ℕ × ℕ)). (first, at) ∷ others) (word_begins word (flat_map spaced more) (at + 1) are.0 ∙ words_from-spaced more (at + 1) (at + 1 + length word) are.1))

bytes_between : (front word rest : List ℕ) → text_between (front ++ (word ++ rest)) (length front, length front + length word) ≡ word
bytes_between front word rest =
    let count : length front + length word - length front ≡ length word = omega arith in
    rw (count, drop-append_seam front (word ++ rest)) (take-append_seam word rest)

texts_at : (line front : List ℕ) (more : List (List ℕ)) → line ≡ front ++ flat_map spaced more → map (text_between line) (places (length front) more) ≡ more
texts_at line front [] is = refl
texts_at line front (word ∷ more) is =
    let begun : length (front ++ 32 ∷ []) ≡ length front + 1 = omega (arith, length-append front (32 ∷ [])) in
    let ended : length (front ++ 32 ∷ [] ++ word) ≡ length front + 1 + length word = omega (arith, begun, length-append (front ++ 32 ∷ []) word) in
    let here : line ≡ (front ++ 32 ∷ []) ++ (word ++ flat_map spaced more) = is ∙ sym (append_assoc front (32 ∷ []) (word ++ flat_map spaced more)) in
    let later : line ≡ front ++ 32 ∷ [] ++ word ++ flat_map spaced more = here ∙ sym (append_assoc (front ++ 32 ∷ []) word (flat_map spaced more)) in
    let first : text_between line (length front + 1, length front + 1 + length word) ≡ word = rw (here, ← begun) (bytes_between (front ++ 32 ∷ []) word (flat_map spaced more)) in
    let others : map (text_between line) (places (length front + 1 + length word) more) ≡ more = rw (← ended) (texts_at line (front ++ 32 ∷ [] ++ word) more later) in
    λ i. first i ∷ others i

-- ---- what a line of such words is

IsLineByte-plain : (word : List ℕ) → AllByRecursion IsPlain word → AllByRecursion IsLineByte word
IsLineByte-plain [] plain = tt
IsLineByte-plain (byte ∷ word) plain = let low = plain.0.low in (record { low = omega arith; high = plain.0.high }, IsLineByte-plain word plain.1)

IsLineByte-spaced : (more : List (List ℕ)) → AllByRecursion IsWord more → AllByRecursion IsLineByte (flat_map spaced more)
IsLineByte-spaced [] are = tt
IsLineByte-spaced (word ∷ more) are =
    (record { low = omega arith; high = omega arith }, AllByRecursion-append IsLineByte word (flat_map spaced more) (IsLineByte-plain word are.0.plain) (IsLineByte-spaced more are.1))

no_return : (line : List ℕ) (k : ℕ) → AllByRecursion IsLineByte line → eqb (get_or line k 0) 13 ≡ false
no_return [] k bytes = refl
no_return (byte ∷ line) zero bytes = let low = bytes.0.low in grind (arith, nat_tests)
no_return (byte ∷ line) (suc k) bytes = no_return line k bytes.1

without_return-none : (line : List ℕ) → AllByRecursion IsLineByte line → without_return line ≡ line
without_return-none line bytes = rw (no_return line (length line - 1) bytes) refl

all_text : (line : List ℕ) → AllByRecursion IsLineByte line → list_all is_plain line ≡ true
all_text [] bytes = refl
all_text (byte ∷ line) bytes =
    let low = bytes.0.low in
    let high = bytes.0.high in
    let here : is_plain byte ≡ true = grind (arith, nat_tests) in
    rw here (all_text line bytes.1)

-- a line of a first word and more words
abbrev pub words_line : List ℕ → List (List ℕ) → List ℕ
words_line first more = first ++ flat_map spaced more

pub IsLineByte-words_line : (first : List ℕ) (more : List (List ℕ)) → IsWord first → AllByRecursion IsWord more → AllByRecursion IsLineByte (words_line first more)
IsLineByte-words_line first more is are = AllByRecursion-append IsLineByte first (flat_map spaced more) (IsLineByte-plain first is.plain) (IsLineByte-spaced more are)

pub texts-words_line : (first : List ℕ) (more : List (List ℕ)) → IsWord first → AllByRecursion IsWord more → word_texts (words_line first more) ≡ first ∷ more
unfolding words
texts-words_line first more is are =
    let line = words_line first more in
    let whole : without_return line ≡ line = without_return-none line (IsLineByte-words_line first more is are) in
    let found : words_from None 0 line ≡ (0, length first) ∷ places (length first) more = word_begins first (flat_map spaced more) 0 is ∙ ap (λ n. words_from (Some 0) n (flat_map spaced more)) (zero-add (length first)) ∙ words_from-spaced more 0 (length first) are in
    let begin : text_between line (0, length first) ≡ first = ap (λ n. text_between line (0, n)) (sym (zero-add (length first))) ∙ bytes_between [] first (flat_map spaced more) in
    rw (whole, found) (λ i. begin i ∷ texts_at line first more refl i)

pub is_readable-words_line : (first : List ℕ) (more : List (List ℕ)) → IsWord first → AllByRecursion IsWord more → length (words_line first more) ≤ 255 → is_readable (words_line first more) ≡ true
is_readable-words_line first more is are short =
    let line = words_line first more in
    let bytes = IsLineByte-words_line first more is are in
    let few : nat_lt (length line) 256 ≡ true = grind (arith, nat_tests) in
    rw (few, without_return-none line bytes) (all_text line bytes)

-- ---- numbers

digit_bounds : (c : ℕ) → digit_value c < 10 → (48 ≤ c) × (c ≤ 57)
digit_bounds c small = (grind (arith, nat_tests), grind (arith, nat_tests))

IsPlain-digits : (ds : List ℕ) → AllDigits 10 ds → AllByRecursion IsPlain ds
IsPlain-digits [] all = tt
IsPlain-digits (c ∷ ds) all = let bounds = digit_bounds c all.0 in (record { low = bounds.0; high = omega arith }, IsPlain-digits ds all.1)

all_digits : (ds : List ℕ) → AllDigits 10 ds → list_all (λ byte. is_digit byte 10) ds ≡ true
all_digits [] all = refl
all_digits (c ∷ ds) all =
    let here : is_digit c 10 ≡ true = let small = all.0 in grind (arith, nat_tests) in
    rw here (all_digits ds all.1)

no_x : (ds : List ℕ) (k : ℕ) → AllDigits 10 ds → eqb (get_or ds k 0) 120 ≡ false
no_x [] k all = refl
no_x (c ∷ ds) zero all = let bounds = digit_bounds c all.0 in grind (arith, nat_tests)
no_x (c ∷ ds) (suc k) all = no_x ds k all.1

pub IsWord-decimal : (n : ℕ) → n < 2 ^ 32 → IsWord (decimal n)
IsWord-decimal n small = let is = (decimal_is_IsNumeral n (omega arith)).0 in record { some = is.0; plain = IsPlain-digits (decimal n) is.1 }

number_of-digits : (ds : List ℕ) → IsNumeral 10 ds → number_of ds ≡ Some (digits_value 10 ds)
number_of-digits ds is =
    let some : nat_lt 0 (length ds) ≡ true = let first = is.0 in grind (arith, nat_tests) in
    rw (no_x ds 1 is.1, and-false (eqb (get_or ds 0 0) 48), some, all_digits ds is.1) refl

pub number-decimal : (n : ℕ) → n < 2 ^ 32 → number (decimal n) ≡ Some n
number-decimal n small =
    let numeral = decimal_is_IsNumeral n (omega arith) in
    let fits : leb n 4294967295 ≡ true = grind (arith, nat_tests) in
    rw (number_of-digits (decimal n) numeral.0, numeral.1, fits) refl

pub numbers_in-decimals : (ns : List ℕ) → AllByRecursion (λ n. n < 2 ^ 32) ns → numbers_in greatest_number (map decimal ns) ≡ Some ns
numbers_in-decimals [] small = refl
numbers_in-decimals (n ∷ ns) small = rw (number-decimal n small.0, numbers_in-decimals ns small.1) refl

pub numbers-decimals : (ns : List ℕ) → AllByRecursion (λ n. n < 2 ^ 32) ns → length ns ≤ 16 → numbers (map decimal ns) ≡ Some ns
unfolding numbers
numbers-decimals ns small few =
    let short : nat_lt 16 (length (map decimal ns)) ≡ false = rw (length-map ns decimal) (grind (arith, nat_tests)) in
    rw (short, numbers_in-decimals ns small) refl

pub IsWord-decimals : (ns : List ℕ) → AllByRecursion (λ n. n < 2 ^ 32) ns → AllByRecursion IsWord (map decimal ns)
IsWord-decimals [] small = tt
IsWord-decimals (n ∷ ns) small = (IsWord-decimal n small.0, IsWord-decimals ns small.1)

pub length-decimals : (ns : List ℕ) → AllByRecursion (λ n. n < 2 ^ 32) ns → length (flat_map spaced (map decimal ns)) ≤ 11 * length ns
length-decimals [] small = omega arith
length-decimals (n ∷ ns) small =
    omega (arith, length-append (decimal n) (flat_map spaced (map decimal ns)), length-decimal-le 10 n (omega arith) (omega arith) (omega arith), length-decimals ns small.1)
