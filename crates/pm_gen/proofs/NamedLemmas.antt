-- The first line of a text, where a name stands behind a word and a space.
use Rattle.std.proofs.Common.{◌≡◌, ℕ, zero, suc, ◌+◌, ◌-◌, ◌<◌, ◌≤◌, ◌==◌, Bool, true, false, not, nat_le, List, [], ◌∷◌, ◌++◌, length, take, drop, get_or, position, codes, Option, Some, None, if◌then◌else◌, append_assoc, refl, sym, ap, ◌∙◌, subst, arith, slice_get, slice_index}
use Rattle.std.specs.List.{list_all, slice_range}
use Rattle.std.proofs.lemmas.Bool.Decides.{nat_tests}
use Rattle.std.proofs.lemmas.List.{length-append, take-append-drop, take_rest}
use Rattle.std.proofs.lemmas.List.Folds.{list_all-append}
use Rattle.std.proofs.lemmas.List.Quantifiers.{position-Some}
use Rattle.std.proofs.Math.Seq.{get_or-append_seam, take-append-add, take-append_seam}
use Rattle.pm_base.proofs.Booleans.{both, pair_of}
use Rattle.pm_io.specs.Lines.{lines_of, without_return}
use Rattle.pm_io.specs.Words.{is_blank, text_between, word_texts, words, words_from}
use Rattle.pm_io.proofs.LinesLemmas.{is_feed}
use Rattle.pm_io.proofs.WordTexts.{word_text_at}
use Rattle.pm_gen.specs.Summary.{HasCounted, IsBehindFeed, IsBehindWord, IsNamed, spelled}
use Rattle.pm_gen.specs.declared.summary.Name.{Name}
use Rattle.pm_gen.specs.declared.summary.Name.TheVariants.{Set, Run, Reply, Drop, Call}
use Rattle.pm_gen.proofs.MeaningLemmas.{lines_after, no_feed}

-- a byte behind the number sign
abbrev is_letter : ℕ → Bool
is_letter byte = not (nat_le byte 35)

-- ---- the bytes before the first that is found

front_fails : (test : ℕ → Bool) (xs : List ℕ) (i : ℕ) → i ≤ length xs → ((k : ℕ) → k < i → test (get_or xs k 0) ≡ false) → list_all (λ x. not (test x)) (take i xs) ≡ true
front_fails test xs zero within fails = refl
front_fails test [] (suc i) within fails = absurd (omega arith)
front_fails test (x ∷ xs) (suc i) within fails =
    pair_of (not (test x)) (list_all (λ x. not (test x)) (take i xs)) (ap not (fails 0 (omega arith))) (front_fails test xs i (omega arith) (λ k less. fails (suc k) (omega arith)))

split_by : (xs : List ℕ) (i : ℕ) → i < length xs → xs ≡ take i xs ++ get_or xs i 0 ∷ drop (suc i) xs
split_by [] i within = absurd (omega arith)
split_by (x ∷ xs) zero within = refl
split_by (x ∷ xs) (suc i) within = ap (λ (l : List ℕ). x ∷ l) (split_by xs i (omega arith))

split_at : (xs : List ℕ) (i : ℕ) → i < length xs → xs ≡ take i xs ++ get_or xs i 0 ∷ drop (i + 1) xs
split_at xs i within =
    let next : suc i ≡ i + 1 = omega arith in
    split_by xs i within ∙ ap (λ (n : ℕ). take i xs ++ get_or xs i 0 ∷ drop n xs) next

length_front : (xs : List ℕ) (i : ℕ) → i ≤ length xs → length (take i xs) ≡ i
length_front xs zero within = refl
length_front [] (suc i) within = absurd (omega arith)
length_front (x ∷ xs) (suc i) within = ap suc (length_front xs i (omega arith))

pub word_before : (text : List ℕ) (end : ℕ) → position (λ byte. nat_le byte 35) text ≡ Some end → 0 < end → get_or text end 0 ≡ 32 → IsBehindWord text (drop (end + 1) text)
word_before text end found some blank =
    let places = position-Some (λ (byte : ℕ). nat_le byte 35) text end 0 found in
    let long : length (take end text) ≡ end = length_front text end (omega arith) in
    record {
      word = take end text;
      begun = omega arith;
      plain = front_fails (λ (byte : ℕ). nat_le byte 35) text end (omega arith) places.2;
      is = split_at text end places.0 ∙ ap (λ (byte : ℕ). take end text ++ byte ∷ drop (end + 1) text) blank;
    }

is_ten : (byte : ℕ) → (byte == 10) ≡ true → byte ≡ 10
is_ten byte is = grind (arith, nat_tests)

pub feed_before : (text : List ℕ) (feed : ℕ) → position (λ byte. byte == 10) text ≡ Some feed → IsBehindFeed text (drop (feed + 1) text)
feed_before text feed found =
    let places = position-Some (λ (byte : ℕ). byte == 10) text feed 0 found in
    record {
      front = take feed text;
      unfed = front_fails (λ (byte : ℕ). byte == 10) text feed (omega arith) places.2;
      is = split_at text feed places.0 ∙ ap (λ (byte : ℕ). take feed text ++ byte ∷ drop (feed + 1) text) (is_ten (get_or text feed 0) places.1);
    }

-- ---- the words of its line

letter_fed : (byte : ℕ) → is_letter byte ≡ true → not (byte == 10) ≡ true
letter_fed byte is = grind (arith, nat_tests)

letter_begins : (byte : ℕ) → is_letter byte ≡ true → (byte == 35) ≡ false
letter_begins byte is = grind (arith, nat_tests)

letter_stands : (byte : ℕ) → is_letter byte ≡ true → is_blank byte ≡ false
unfolding is_blank
letter_stands byte is = grind (arith, nat_tests)

letters_fed : (word : List ℕ) → list_all is_letter word ≡ true → no_feed word ≡ true
letters_fed [] plain = refl
letters_fed (byte ∷ word) plain =
    let here = both (is_letter byte) (list_all is_letter word) plain in
    pair_of (not (byte == 10)) (no_feed word) (letter_fed byte here.0) (letters_fed word here.1)

-- a word that has begun ends before a space
word_ends : (word rest : List ℕ) (start at end : ℕ) → list_all is_letter word ≡ true → at + length word ≡ end → words_from (Some start) at (word ++ 32 ∷ rest) ≡ (start, end) ∷ words_from None (end + 1) rest
unfolding is_blank
word_ends [] rest start at end plain ends =
    let same : at ≡ end = omega arith in
    ap (λ (n : ℕ). (start, n) ∷ words_from None (n + 1) rest) same
word_ends (byte ∷ word) rest start at end plain ends =
    let here = both (is_letter byte) (list_all is_letter word) plain in
    ap (λ (blank : Bool). if blank then (start, at) ∷ words_from None (at + 1) (word ++ 32 ∷ rest) else words_from (Some start) (at + 1) (word ++ 32 ∷ rest)) (letter_stands byte here.0)
    ∙ word_ends word rest start (at + 1) end here.1 (omega arith)

-- a word begins and ends before a space
whole_word : (word rest : List ℕ) (at end : ℕ) → 0 < length word → list_all is_letter word ≡ true → at + length word ≡ end → words_from None at (word ++ 32 ∷ rest) ≡ (at, end) ∷ words_from None (end + 1) rest
whole_word [] rest at end some plain ends = absurd (omega arith)
whole_word (byte ∷ word) rest at end some plain ends =
    let here = both (is_letter byte) (list_all is_letter word) plain in
    ap (λ (blank : Bool). if blank then words_from None (at + 1) (word ++ 32 ∷ rest) else (if byte == 35 then [] else words_from (Some at) (at + 1) (word ++ 32 ∷ rest))) (letter_stands byte here.0)
    ∙ ap (λ (sign : Bool). if sign then [] else words_from (Some at) (at + 1) (word ++ 32 ∷ rest)) (letter_begins byte here.0)
    ∙ word_ends word rest at (at + 1) end here.1 (omega arith)

-- ---- a carriage return at the end of the line leaves what stands before a space

-- a line without its return begins as the line does
abbrev KeepsFront : List ℕ → List ℕ → Type 0
KeepsFront front line = (more : List ℕ) × (line ≡ front ++ 32 ∷ more)

by_return : (front tail : List ℕ) (byte : ℕ) (returns : Bool) → KeepsFront front (if returns then take (length (front ++ 32 ∷ byte ∷ tail) - 1) (front ++ 32 ∷ byte ∷ tail) else front ++ 32 ∷ byte ∷ tail)
by_return front tail byte true =
    let sum : length (front ++ 32 ∷ byte ∷ tail) ≡ length front + length (32 ∷ byte ∷ tail) = length-append front (32 ∷ byte ∷ tail) in
    let less : length (front ++ 32 ∷ byte ∷ tail) - 1 ≡ length front + suc (length tail) = omega arith in
    (take (length tail) (byte ∷ tail), ap (λ (n : ℕ). take n (front ++ 32 ∷ byte ∷ tail)) less ∙ take-append-add front (32 ∷ byte ∷ tail) (suc (length tail)))
by_return front tail byte false = (byte ∷ tail, refl)

keeps_front : (front tail : List ℕ) → KeepsFront front (without_return (front ++ 32 ∷ tail))
keeps_front front [] =
    let sum : length (front ++ 32 ∷ []) ≡ length front + 1 = length-append front (32 ∷ []) in
    let less : length (front ++ 32 ∷ []) - 1 ≡ length front = omega arith in
    let last : slice_index (front ++ 32 ∷ []) (length (front ++ 32 ∷ []) - 1) ≡ 32 = ap (λ (n : ℕ). slice_index (front ++ 32 ∷ []) n) less ∙ get_or-append_seam front 32 [] 0 in
    ([], ap (λ (byte : ℕ). if byte == 13 then take (length (front ++ 32 ∷ []) - 1) (front ++ 32 ∷ []) else front ++ 32 ∷ []) last)
keeps_front front (byte ∷ tail) = by_return front tail byte (slice_index (front ++ 32 ∷ byte ∷ tail) (length (front ++ 32 ∷ byte ∷ tail) - 1) == 13)

-- ---- a name behind a word

name_plain : (name : Name) → list_all is_letter (spelled name) ≡ true
name_plain Set = refl
name_plain Run = refl
name_plain Reply = refl
name_plain Drop = refl
name_plain Call = refl

name_some : (name : Name) → 0 < length (spelled name)
name_some Set = omega arith
name_some Run = omega arith
name_some Reply = omega arith
name_some Drop = omega arith
name_some Call = omega arith

-- the place of the second word
second_place : (word second tail : List ℕ) → 0 < length word → list_all is_letter word ≡ true → 0 < length second → list_all is_letter second ≡ true → slice_get (words ((word ++ 32 ∷ second) ++ 32 ∷ tail)) 1 ≡ Some (length word + 1, length word + 1 + length second)
unfolding words
second_place word second tail some plain more named =
    let kept = keeps_front (word ++ 32 ∷ second) tail in
    ap (λ (line : List ℕ). slice_get (words_from None 0 line) 1) (kept.1 ∙ append_assoc word (32 ∷ second) (32 ∷ kept.0))
    ∙ ap (λ (places : List (ℕ × ℕ)). slice_get places 1) (whole_word word (second ++ 32 ∷ kept.0) 0 (length word) some plain (omega arith))
    ∙ ap (λ (places : List (ℕ × ℕ)). slice_get places 0) (whole_word second kept.0 (length word + 1) (length word + 1 + length second) more named refl)

drop_front : (xs ys : List ℕ) (y : ℕ) → drop (suc (length xs)) (xs ++ y ∷ ys) ≡ ys
drop_front [] ys y = refl
drop_front (x ∷ xs) ys y = drop_front xs ys y

drop_front_one : (xs ys : List ℕ) (y : ℕ) → drop (length xs + 1) (xs ++ y ∷ ys) ≡ ys
drop_front_one xs ys y =
    let next : length xs + 1 ≡ suc (length xs) = omega arith in
    ap (λ (n : ℕ). drop n (xs ++ y ∷ ys)) next ∙ drop_front xs ys y

-- its text
second_text : (word second tail : List ℕ) → text_between ((word ++ 32 ∷ second) ++ 32 ∷ tail) (length word + 1, length word + 1 + length second) ≡ second
second_text word second tail =
    let size : length word + 1 + length second - (length word + 1) ≡ length second = omega arith in
    let rest : drop (length word + 1) ((word ++ 32 ∷ second) ++ 32 ∷ tail) ≡ second ++ 32 ∷ tail = ap (drop (length word + 1)) (append_assoc word (32 ∷ second) (32 ∷ tail)) ∙ drop_front_one word (second ++ 32 ∷ tail) 32 in
    ap (λ (n : ℕ). take n (drop (length word + 1) ((word ++ 32 ∷ second) ++ 32 ∷ tail))) size
    ∙ ap (take (length second)) rest
    ∙ take-append_seam second (32 ∷ tail)

second_word : (word second tail : List ℕ) → 0 < length word → list_all is_letter word ≡ true → 0 < length second → list_all is_letter second ≡ true → slice_get (word_texts ((word ++ 32 ∷ second) ++ 32 ∷ tail)) 1 ≡ Some second
second_word word second tail some plain more named =
    word_text_at ((word ++ 32 ∷ second) ++ 32 ∷ tail) 1 (length word + 1, length word + 1 + length second) (second_place word second tail some plain more named)
    ∙ ap (λ (text : List ℕ). Some text) (second_text word second tail)

no_feed_of : (xs ys : List ℕ) → no_feed xs ≡ true → no_feed ys ≡ true → no_feed (xs ++ ys) ≡ true
no_feed_of xs ys first more = list_all-append (λ byte. not (is_feed byte)) xs ys ∙ pair_of (no_feed xs) (no_feed ys) first more

-- the line of a name
pub name_behind : (name : Name) (text behind rest after : List ℕ) → IsBehindWord text behind → behind ≡ spelled name ++ 32 ∷ rest → IsBehindFeed rest after → IsNamed name text after
name_behind name text behind rest after first second ends =
    let word = first.word in
    let line : List ℕ = (word ++ 32 ∷ spelled name) ++ 32 ∷ ends.front in
    let unfed : no_feed line ≡ true = no_feed_of (word ++ 32 ∷ spelled name) (32 ∷ ends.front) (no_feed_of word (32 ∷ spelled name) (letters_fed word first.plain) (letters_fed (spelled name) (name_plain name))) ends.unfed in
    let is : text ≡ line ++ 10 ∷ after =
    first.is
    ∙ ap (λ (l : List ℕ). word ++ 32 ∷ l) (second ∙ ap (λ (l : List ℕ). spelled name ++ 32 ∷ l) ends.is)
    ∙ sym (append_assoc (word ++ 32 ∷ spelled name) (32 ∷ ends.front) (10 ∷ after) ∙ append_assoc word (32 ∷ spelled name) (32 ∷ ends.front ++ 10 ∷ after))
    in
    record {
      line = line;
      lines = ap lines_of is ∙ lines_after line after unfed;
      second = second_word word (spelled name) ends.front first.begun first.plain (name_some name) (name_plain name);
    }

length_behind : (text front behind : List ℕ) (byte : ℕ) → text ≡ front ++ byte ∷ behind → length behind < length text
length_behind text front behind byte is =
    let sum : length (front ++ byte ∷ behind) ≡ length front + length (byte ∷ behind) = length-append front (byte ∷ behind) in
    let same : length text ≡ length (front ++ byte ∷ behind) = ap length is in
    omega arith

pub shorter_behind : (name : Name) (text behind rest after : List ℕ) → IsBehindWord text behind → behind ≡ spelled name ++ 32 ∷ rest → IsBehindFeed rest after → length after < length text
shorter_behind name text behind rest after first second ends =
    let one = length_behind text first.word behind 32 first.is in
    let two = length_behind behind (spelled name) rest 32 second in
    let three = length_behind rest ends.front after 10 ends.is in
    omega arith
