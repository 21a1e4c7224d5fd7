-- How a short line is read: its numbers, and its keyword.
use Rattle.std.proofs.Common.{◌≡◌, ◌≢◌, ℕ, ◌+◌, ◌-◌, ◌*◌, ◌^◌, ◌<◌, ◌≤◌, ◌==◌, ◌&&◌, Bool, true, false, if◌then◌else◌, List, [], ◌∷◌, ◌++◌, length, drop, take, map, get_or, Option, Some, None, slice_index, nat_le, nat_lt, refl, sym, ap, ◌∙◌, arith, subst}
use Rattle.std.specs.Prelude.{slice_range}
use Rattle.std.specs.Char.{is_digit, digit_value}
use Rattle.std.specs.List.{list_all}
use Rattle.std.specs.Str.Parse.{digits_value}
use Rattle.std.proofs.lemmas.Bool.Decides.{nat_tests}
use Rattle.std.proofs.Math.Seq.{take-append_seam}
use Rattle.std.proofs.lemmas.Int.Digits.{digits_value_push}
use Rattle.std.proofs.lemmas.List.{get_or-drop, length-drop, length-take, at_drop_all, drop_more, take_more}
use Rattle.std.proofs.lemmas.List.Folds.{list_all-append}
use Rattle.pm_base.proofs.Booleans.{both}
use Rattle.pm_base.specs.declared.events.Event.{Event}
use Rattle.pm_base.specs.declared.events.Event.TheVariants.{Pass}
use Rattle.pm_io.specs.Lines.{is_plain}
use Rattle.pm_io.specs.Words.{is_blank, text_between, words, words_from, word_texts}
use Rattle.pm_io.proofs.WordsLemmas.{words_from-between, words_from-end, words_from-none}
use Rattle.pm_script.specs.declared.forms.Kind.{Kind}
use Rattle.pm_script.specs.declared.forms.Kind.TheVariants as kinds
use Rattle.pm_script.specs.ObjectLine.{numbers_of}
use Rattle.pm_script.specs.Sentences.{number_of_word}
use Rattle.pm_script.specs.declared.short.ShortNumber.{ShortNumber}
use Rattle.pm_script.specs.Meaning.{words_meaning}
use Rattle.pm_script.specs.Short.{EndsPlain, IsMeant, MeansPlain, StandsAt, first_line, keyword_of, words_after}
use Rattle.pm_script.proofs.FirstLineLemmas.{byte_on, line_ends, line_from, plain_whole}
use Rattle.pm_script.proofs.ObjectLineLemmas.{joined, no_more, one_more}
use Rattle.pm_script.proofs.WordsLemmas.{blank_on, comment_begins, solid_on, word_begins, words_is}

-- ---- the number of a short word

-- digits alone are a decimal number: an `x` is none
not_marked : (word : List ℕ) → list_all (λ byte. is_digit byte 10) word ≡ true → ((slice_index word 0 == 48) && (slice_index word 1 == 120)) ≡ false
not_marked [] digits = refl
not_marked (byte ∷ []) digits = by (byte == 48)
  where
    by : (b : Bool) → (b && false) ≡ false
    by true = refl
    by false = refl
not_marked (byte ∷ next ∷ word) digits =
    let later = (both (is_digit byte 10) (list_all (λ byte. is_digit byte 10) (next ∷ word)) digits).1 in
    let second = (both (is_digit next 10) (list_all (λ byte. is_digit byte 10) word) later).0 in
    let other : (next == 120) ≡ false = grind (arith, nat_tests) in
    by (byte == 48) (next == 120) other
  where
    by : (b x : Bool) → x ≡ false → (b && x) ≡ false
    by true x is = is
    by false x is = refl

pub digits_number : (word : List ℕ) (value : ℕ) → 0 < length word → list_all (λ byte. is_digit byte 10) word ≡ true → digits_value 10 word ≡ value → value < 2 ^ 32
    → number_of_word word ≡ Some value
digits_number word value some digits is fits =
    let long : nat_lt 0 (length word) ≡ true = grind (arith, nat_tests) in
    let few : nat_le value (2 ^ 32 - 1) ≡ true = grind (arith, nat_tests) in
    rw (not_marked word digits, long, digits, is, few) refl

-- one byte more in a part of a line
range_more : (line : List ℕ) (from at : ℕ) → from ≤ at → at < length line → slice_range line from (at + 1) ≡ slice_range line from at ++ get_or line at 0 ∷ []
range_more line from at after within =
    let more : at + 1 - from ≡ at - from + 1 = omega arith in
    let there : from + (at - from) ≡ at = omega arith in
    let inside : at - from < length (drop from line) = omega (arith, length-drop from line) in
    ap (λ n. take n (drop from line)) more
    ∙ take_more (drop from line) (at - from) 0 inside
    ∙ ap (λ byte. take (at - from) (drop from line) ++ byte ∷ []) (get_or-drop from line (at - from) 0 ∙ ap (λ n. get_or line n 0) there)

module _ (line : List ℕ) (from at : ℕ) (after : from ≤ at) (within : at < length line) where
  pub digits_on : (digit : is_digit (get_or line at 0) 10 ≡ true) → list_all (λ byte. is_digit byte 10) (slice_range line from at) ≡ true → list_all (λ byte. is_digit byte 10) (slice_range line from (at + 1)) ≡ true
  digits_on digit digits =
      ap (list_all (λ byte. is_digit byte 10)) (range_more line from at after within)
      ∙ list_all-append (λ byte. is_digit byte 10) (slice_range line from at) (get_or line at 0 ∷ [])
      ∙ rw (digits, digit) refl

  pub value_on : (value more : ℕ) → digits_value 10 (slice_range line from at) ≡ value → more ≡ value * 10 + digit_value (get_or line at 0) → digits_value 10 (slice_range line from (at + 1)) ≡ more
  value_on value more is next =
      ap (digits_value 10) (range_more line from at after within)
      ∙ digits_value_push 10 (slice_range line from at) (get_or line at 0)
      ∙ ap (λ n. n * 10 + digit_value (get_or line at 0)) is
      ∙ sym next

-- the first digit alone
range_one : (line : List ℕ) (from : ℕ) → from < length line → slice_range line from (from + 1) ≡ get_or line from 0 ∷ []
range_one line from within =
    let none : from - from ≡ 0 = omega arith in
    range_more line from from (omega arith) within ∙ ap (λ n. take n (drop from line) ++ get_or line from 0 ∷ []) none

module _ (line : List ℕ) (from : ℕ) (within : from < length line) where
  pub digits_begin : is_digit (get_or line from 0) 10 ≡ true → list_all (λ byte. is_digit byte 10) (slice_range line from (from + 1)) ≡ true
  digits_begin digit = ap (list_all (λ byte. is_digit byte 10)) (range_one line from within) ∙ rw digit refl

  pub value_begins : (value : ℕ) → value ≡ 0 * 10 + digit_value (get_or line from 0) → digits_value 10 (slice_range line from (from + 1)) ≡ value
  value_begins value is = ap (digits_value 10) (range_one line from within) ∙ sym is

pub short_means : (line : List ℕ) (from at value : ℕ) → from < at → at ≤ length line → list_all (λ byte. is_digit byte 10) (slice_range line from at) ≡ true → digits_value 10 (slice_range line from at) ≡ value → value < 2 ^ 32
    → number_of_word (text_between line (from, at)) ≡ Some value
short_means line from at value after within digits is fits =
    let some : 0 < length (slice_range line from at) = omega (arith, length-take (at - from) (drop from line), length-drop from line) in
    digits_number (slice_range line from at) value some digits is fits

pub blank_byte : (byte : ℕ) → byte ≡ 32 → is_blank byte ≡ true
unfolding is_blank
blank_byte byte is = rw is refl

-- a blank ends a word
pub blank_ends : (line : List ℕ) (at start : ℕ) → at < length line → get_or line at 0 ≡ 32
    → words_from (Some start) at (drop at line) ≡ (start, at) ∷ words_from None at (drop at line)
blank_ends line at start within is =
    let blank = blank_byte (get_or line at 0) is in
    words_from-end line at (Some start) start within refl blank ∙ ap (λ (later : List (ℕ × ℕ)). (start, at) ∷ later) (sym (words_from-between line at None within refl blank))

-- the digits that were passed are those of a word, and go on with it
pub record Digits (line : List ℕ) (from at value : ℕ) : Type 0 where
  pub begun : from < at
  pub within : at ≤ length line
  pub plain : list_all is_plain (drop at line) ≡ list_all is_plain (drop from line)
  pub word : words_from (Some from) at (drop at line) ≡ words_from None from (drop from line)
  pub digits : list_all (λ byte. is_digit byte 10) (slice_range line from at) ≡ true
  pub value_is : digits_value 10 (slice_range line from at) ≡ value
  pub fits : value < 2 ^ 32

-- a byte that makes a number of another one
pub record IsDigit (byte before more : ℕ) : Type 0 where
  pub digit : is_digit byte 10 ≡ true
  pub solid : (nat_le 33 byte && nat_le byte 126) ≡ true
  pub sign : byte ≢ 35
  pub value : more ≡ before * 10 + digit_value byte
  pub fits : more < 2 ^ 32

pub solid_other : (byte : ℕ) → (nat_le 33 byte && nat_le byte 126) ≡ true → (byte == 10) ≡ false
solid_other byte solid = grind (arith, nat_tests)

-- the same of the line's byte
of_line : (byte other value more : ℕ) → other ≡ byte → IsDigit byte value more → IsDigit other value more
of_line byte other value more same is = subst (λ b. IsDigit b value more) (sym same) is

module _ (text : List ℕ) (from at : ℕ) where
  -- the first digit
  pub digits_first : (number : ℕ) → from ≤ length (first_line text) → from < length text → IsDigit (get_or text from 0) 0 number → Digits (first_line text) from (from + 1) number
  digits_first number before within is =
      let on = byte_on text from before within (solid_other (get_or text from 0) is.solid) in
      let digit = of_line (get_or text from 0) (get_or (first_line text) from 0) 0 number on.1 is in
      record {
        begun = omega arith;
        within = omega (arith, on.0);
        plain = (solid_on (first_line text) from on.0 digit.solid).0;
        word = sym (word_begins (first_line text) from on.0 digit.solid digit.sign);
        digits = digits_begin (first_line text) from on.0 digit.digit;
        value_is = value_begins (first_line text) from on.0 number digit.value;
        fits = digit.fits;
      }

  -- one digit more
  pub digits_next : (value more : ℕ) → at < length text → IsDigit (get_or text at 0) value more → Digits (first_line text) from at value → Digits (first_line text) from (at + 1) more
  digits_next value more within is so_far =
      let on = byte_on text at so_far.within within (solid_other (get_or text at 0) is.solid) in
      let digit = of_line (get_or text at 0) (get_or (first_line text) at 0) value more on.1 is in
      let step = solid_on (first_line text) at on.0 digit.solid in
      let after : from ≤ at = omega (arith, so_far.begun) in
      record {
        begun = omega (arith, so_far.begun);
        within = omega (arith, on.0);
        plain = step.0 ∙ so_far.plain;
        word = step.1 from ∙ so_far.word;
        digits = digits_on (first_line text) from at after on.0 digit.digit so_far.digits;
        value_is = value_on (first_line text) from at after on.0 value more so_far.value_is digit.value;
        fits = digit.fits;
      }

  -- a blank ends the word
  pub stands_between : (number : ℕ) → at < length text → get_or text at 0 ≡ 32 → Digits (first_line text) from at number
      → StandsAt text from (record { number = number; end = at; is_last = false })
  stands_between number within blank so_far =
      let line = first_line text in
      let other : (get_or text at 0 == 10) ≡ false = grind (arith, nat_tests) in
      let on = byte_on text at so_far.within within other in
      record {
        within = within;
        before = so_far.within;
        stops = blank;
        plain = so_far.plain;
        place = sym so_far.word ∙ blank_ends line at from on.0 (on.1 ∙ blank);
        number = short_means line from at number so_far.begun so_far.within so_far.digits so_far.value_is so_far.fits;
      }

  -- the line feed ends it
  pub stands_last : (number : ℕ) → at < length text → get_or text at 0 ≡ 10 → Digits (first_line text) from at number
      → StandsAt text from (record { number = number; end = at; is_last = true })
  stands_last number within feed so_far =
      let line = first_line text in
      let past : length line ≤ at = omega (arith, line_ends text at so_far.within within feed) in
      let none : words_from None at (drop at line) ≡ [] = words_from-none line at None past refl in
      record {
        within = within;
        before = so_far.within;
        stops = feed;
        plain = so_far.plain;
        place =
            sym so_far.word
            ∙ at_drop_all (words_from (Some from) at) line at past
            ∙ ap (λ (later : List (ℕ × ℕ)). (from, at) ∷ later) (sym none);
        number = short_means line from at number so_far.begun so_far.within so_far.digits so_far.value_is so_far.fits;
      }

-- one more number was found, before a blank
module _ (text : List ℕ) (at : ℕ) (word : ShortNumber) (stands : StandsAt text at word) where
  before_blank : word.is_last ≡ false → (word.end < length (first_line text)) × (get_or (first_line text) word.end 0 ≡ 32)
  before_blank more =
      let blank : get_or text word.end 0 ≡ 32 = stands.stops ∙ ap (λ (b : Bool). if b then 10 else 32) more in
      let other : (get_or text word.end 0 == 10) ≡ false = grind (arith, nat_tests) in
      let on = byte_on text word.end stands.before stands.within other in
      (on.0, on.1 ∙ blank)

  pub past_blank : word.is_last ≡ false
      → (word.end < length (first_line text)) × (list_all is_plain (drop (word.end + 1) (first_line text)) ≡ list_all is_plain (drop at (first_line text)))
      × (words_from None (word.end + 1) (drop (word.end + 1) (first_line text)) ≡ words_from None word.end (drop word.end (first_line text)))
  past_blank more =
      let blank = before_blank more in
      let on = blank_on (first_line text) word.end blank.0 (blank_byte (get_or (first_line text) word.end 0) blank.1) in
      (blank.0, on.0 ∙ stands.plain, on.1)

  -- or before the line feed
  pub at_feed : word.is_last ≡ true → word.end ≡ length (first_line text)
  at_feed last = line_ends text word.end stands.before stands.within (stands.stops ∙ ap (λ (b : Bool). if b then 10 else 32) last)

  -- it is put behind the others
  module _ (front new : List ℕ) (whole : Option (List ℕ)) (so_far : joined front (numbers_of (words_after (first_line text) at)) ≡ whole) (put : new ≡ front ++ word.number ∷ []) where
    behind : joined new (numbers_of (words_after (first_line text) word.end)) ≡ whole
    behind =
        let line = first_line text in
        rw put (one_more line front (words_from None at (drop at line)) whole so_far (at, word.end) (words_from None word.end (drop word.end line)) word.number stands.place stands.number)

    pub put_between : word.is_last ≡ false → joined new (numbers_of (words_after (first_line text) (word.end + 1))) ≡ whole
    put_between more = ap (λ (later : List (ℕ × ℕ)). joined new (numbers_of (map (text_between (first_line text)) later))) (past_blank more).2 ∙ behind

    pub put_last : word.is_last ≡ true → whole ≡ Some new
    put_last last =
        let line = first_line text in
        let past : length line ≤ word.end = omega (arith, at_feed last) in
        sym (no_more line new (words_from None word.end (drop word.end line)) whole behind (words_from-none line word.end None past refl))

-- ---- a line and its keyword

-- a plain line that is a comment from its first byte on has no word
pub no_words : (line : List ℕ) → 0 < length line → get_or line 0 0 ≡ 35 → list_all is_plain line ≡ true → word_texts line ≡ []
no_words line some sign plain =
    ap (map (text_between line)) (words_is line ∙ ap (words_from None 0) (plain_whole line plain) ∙ comment_begins line 0 some sign)

-- the keyword is the first word, and the others follow behind a blank
places_after : (kind : Kind) (rest : List ℕ) → words_from None 0 (keyword_of kind ++ 32 ∷ rest) ≡ (0, length (keyword_of kind)) ∷ words_from None (length (keyword_of kind) + 1) rest
unfolding is_blank
places_after kinds.Ipi rest = refl
places_after kinds.Boot rest = refl
places_after kinds.Wfi rest = refl
places_after kinds.Irq rest = refl
places_after kinds.Gic rest = refl
places_after kinds.Tick rest = refl
places_after kinds.Post rest = refl
places_after kinds.Serve rest = refl
places_after kinds.Smc rest = refl
places_after kinds.Task rest = refl
places_after kinds.Cancel rest = refl
places_after kinds.Break rest = refl
places_after kinds.Mend rest = refl

front_text : (front rest : List ℕ) → text_between (front ++ rest) (0, length front) ≡ front
front_text front rest = let all : length front - 0 ≡ length front = omega arith in ap (λ n. take n (front ++ rest)) all ∙ take-append_seam front rest

plain_after : (kind : Kind) (rest : List ℕ) → list_all is_plain (keyword_of kind ++ 32 ∷ rest) ≡ list_all is_plain rest
plain_after kinds.Ipi rest = refl
plain_after kinds.Boot rest = refl
plain_after kinds.Wfi rest = refl
plain_after kinds.Irq rest = refl
plain_after kinds.Gic rest = refl
plain_after kinds.Tick rest = refl
plain_after kinds.Post rest = refl
plain_after kinds.Serve rest = refl
plain_after kinds.Smc rest = refl
plain_after kinds.Task rest = refl
plain_after kinds.Cancel rest = refl
plain_after kinds.Break rest = refl
plain_after kinds.Mend rest = refl

module _ (kind : Kind) (line : List ℕ) (from : ℕ) (is : line ≡ keyword_of kind ++ 32 ∷ drop from line) (rest_plain : list_all is_plain (drop from line) ≡ true) where
  pub line_plain : list_all is_plain line ≡ true
  line_plain = ap (list_all is_plain) is ∙ plain_after kind (drop from line) ∙ rest_plain

  pub first_word : from ≡ length (keyword_of kind) + 1 → word_texts line ≡ keyword_of kind ∷ map (text_between line) (words_from None from (drop from line))
  first_word at =
      let word = keyword_of kind in
      let places : words line ≡ (0, length word) ∷ words_from None from (drop from line)
      = words_is line
      ∙ ap (words_from None 0) (plain_whole line line_plain ∙ is)
      ∙ places_after kind (drop from line)
      ∙ ap (λ n. (0, length word) ∷ words_from None n (drop from line)) (sym at)
      in
      let first : text_between line (0, length word) ≡ word = ap (λ (l : List ℕ). text_between l (0, length word)) is ∙ front_text word (32 ∷ drop from line) in
      ap (map (text_between line)) places ∙ ap (λ (text : List ℕ). text ∷ map (text_between line) (words_from None from (drop from line))) first

-- a line by its first bytes
pub four_first : (line : List ℕ) (a b c d : ℕ) → 4 ≤ length line → get_or line 0 0 ≡ a → get_or line 1 0 ≡ b → get_or line 2 0 ≡ c → get_or line 3 0 ≡ d → line ≡ a ∷ b ∷ c ∷ d ∷ drop 4 line
four_first [] a b c d long one two three four = absurd (omega arith)
four_first (w ∷ []) a b c d long one two three four = absurd (omega arith)
four_first (w ∷ x ∷ []) a b c d long one two three four = absurd (omega arith)
four_first (w ∷ x ∷ y ∷ []) a b c d long one two three four = absurd (omega arith)
four_first (w ∷ x ∷ y ∷ z ∷ line) a b c d long one two three four = rw (one, two, three, four) refl

pub five_first : (line : List ℕ) (a b c d e : ℕ) → 5 ≤ length line → get_or line 0 0 ≡ a → get_or line 1 0 ≡ b → get_or line 2 0 ≡ c → get_or line 3 0 ≡ d → get_or line 4 0 ≡ e → line ≡ a ∷ b ∷ c ∷ d ∷ e ∷ drop 5 line
five_first line a b c d e long one two three four five =
    four_first line a b c d (omega arith) one two three four
    ∙ ap (λ (rest : List ℕ). a ∷ b ∷ c ∷ d ∷ rest) (drop_more line 4 0 (omega arith) ∙ ap (λ byte. byte ∷ drop 5 line) five)

-- a comment up to a line feed does nothing
pub comment_means : (text : List ℕ) (feed : ℕ) (event : Event) → 0 < length text → get_or text 0 0 ≡ 35 → EndsPlain text 0 feed → event ≡ Pass → MeansPlain text feed event
comment_means text feed event some sign ends is =
    let line = first_line text in
    let other : (get_or text 0 0 == 10) ≡ false = grind (arith, nat_tests) in
    let on = byte_on text 0 (omega arith) some other in
    record { ends = ends; means = ap words_meaning (no_words line on.0 (on.1 ∙ sign) ends.plain) ∙ rw is refl }

-- numbers behind a keyword mean an event
pub numbers_mean : (kind : Kind) (text : List ℕ) (from feed : ℕ) (numbers : List ℕ) (event : Event) → from ≡ length (keyword_of kind) + 1 → text ≡ keyword_of kind ++ 32 ∷ drop from text
    → EndsPlain text from feed → numbers_of (words_after (first_line text) from) ≡ Some numbers → IsMeant kind numbers event → MeansPlain text feed event
numbers_mean kind text from feed numbers event at is ends these meant =
    let line = line_from kind text from at is in
    record {
      ends = record { found = ends.found; plain = line_plain kind (first_line text) from line ends.plain };
      means = ap words_meaning (first_word kind (first_line text) from line ends.plain at) ∙ meant (words_after (first_line text) from) these;
    }
