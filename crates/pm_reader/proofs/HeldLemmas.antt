-- What a reader holds, and the first line of it.
use Rattle.std.proofs.Common.{◌≡◌, ℕ, zero, suc, ◌+◌, ◌-◌, ◌<◌, ◌≤◌, ◌==◌, Bool, true, false, cond, IsTrue, Some, None, List, [], ◌∷◌, ◌++◌, length, take, drop, position, refl, sym, ◌∙◌, ap, subst, arith, get_or, nat_lt}
use Rattle.std.specs.List.{position_or_len}
use Rattle.std.proofs.lemmas.Bool.Decides.{nat_tests}
use Rattle.std.proofs.lemmas.List.{length-append, length-drop, get_or_append_left, drop-take, take-append-drop, take_all, length-take-le}
use Rattle.std.proofs.lemmas.List.Quantifiers.{position-Some}
use Rattle.std.proofs.lemmas.List.Sums.{position_or_len_is, fails_before_first}
use Rattle.pm_reader.specs.Reader.{Held, GaveByFeed, GaveLast, IsOpen, is_feed, within, within_limit}

take_most : (n : ℕ) (xs : List ℕ) → length (take n xs) ≤ n
take_most zero xs = omega arith
take_most (suc n) [] = omega arith
take_most (suc n) (x ∷ xs) = let later = take_most n xs in omega arith

-- ---- places of line feeds

pub position_front : (xs ys : List ℕ) (k : ℕ) → position is_feed xs ≡ Some k → position is_feed (xs ++ ys) ≡ Some k
position_front xs ys k found =
    let at = position-Some is_feed xs k 0 found in
    let inside : k < length xs = at.0 in
    let whole : k < length (xs ++ ys) = omega (arith, length-append xs ys) in
    let here : get_or (xs ++ ys) k 0 ≡ get_or xs k 0 = get_or_append_left xs ys 0 k inside in
    let first : position_or_len is_feed (xs ++ ys) ≡ k =
    position_or_len_is is_feed (xs ++ ys) k 0 (omega arith)
    (λ j below. ap is_feed (get_or_append_left xs ys 0 j (omega arith)) ∙ at.2 j below)
    (λ _. ap is_feed here ∙ at.1)
    in
    grind (arith, nat_tests)

fails_where_none : (b : Bool) (n : ℕ) → cond b (Some n) None ≡ None → b ≡ false
fails_where_none true n none = cc
fails_where_none false n none = refl

-- no place of a text without a line feed has one
pub no_feed_at : (xs : List ℕ) (k : ℕ) → position is_feed xs ≡ None → k < length xs → is_feed (get_or xs k 0) ≡ false
no_feed_at xs k none inside =
    let fails : nat_lt (position_or_len is_feed xs) (length xs) ≡ false = fails_where_none (nat_lt (position_or_len is_feed xs) (length xs)) (position_or_len is_feed xs) none in
    let past : length xs ≤ position_or_len is_feed xs = grind (arith, nat_tests) in
    fails_before_first is_feed xs k 0 (omega arith)

-- a first line feed in the front of a text is the first one of the text
pub feed_in_front : (text : List ℕ) (at : ℕ) → position is_feed (take 256 text) ≡ Some at → (position is_feed text ≡ Some at) × (at < 256) × (at < length text)
feed_in_front text at found =
    let whole : position is_feed text ≡ Some at = subst (λ (xs : List ℕ). position is_feed xs ≡ Some at) (take-append-drop 256 text) (position_front (take 256 text) (drop 256 text) at found) in
    let few : length (take 256 text) ≤ 256 = take_most 256 text in
    let near : at < length (take 256 text) = (position-Some is_feed (take 256 text) at 0 found).0 in
    (whole, omega arith, (position-Some is_feed text at 0 whole).0)

-- ---- what may belong to lines

most_within : (credit : ℕ) (bytes : List ℕ) → length (within_limit credit bytes) ≤ length bytes
most_within credit bytes = by (credit == 0)
  where
    by : (over : Bool) → length (cond over (take (length bytes - 1) bytes) bytes) ≤ length bytes
    by true = let few = take_most (length bytes - 1) bytes in omega arith
    by false = omega arith

-- bytes were taken off the front of what is held
drop_within : (credit n : ℕ) (bytes : List ℕ) → n ≤ length (within_limit credit bytes) → within_limit credit (drop n bytes) ≡ drop n (within_limit credit bytes)
drop_within credit n bytes = by (credit == 0)
  where
    by : (over : Bool) → n ≤ length (cond over (take (length bytes - 1) bytes) bytes) → cond over (take (length (drop n bytes) - 1) (drop n bytes)) (drop n bytes) ≡ drop n (cond over (take (length bytes - 1) bytes) bytes)
    by false inside = refl
    by true inside =
        let few : n ≤ length bytes - 1 = (let most = take_most (length bytes - 1) bytes in omega arith) in
        let left : length (drop n bytes) - 1 ≡ length bytes - 1 - n = omega (arith, length-drop n bytes) in
        let size : length bytes - 1 ≡ n + (length bytes - 1 - n) = omega arith in
        ap (λ (m : ℕ). take m (drop n bytes)) left
        ∙ (sym (drop-take n (length bytes - 1 - n) bytes) ∙ ap (λ (m : ℕ). drop n (take m bytes)) (sym size))

-- ---- answers of a reader

-- the first line feed of what is held, and the room of the line before it
pub record FeedAt (held : Held) (text : List ℕ) (at : ℕ) : Type 0 where
  pub found : position is_feed text ≡ Some at
  pub short : at < 256
  pub inside : at < length text
  pub fits : at + 1 ≤ length held.bytes

pub feed_at : (held : Held) (text front : List ℕ) (at : ℕ) → text ≡ within held → front ≡ take 256 text → position is_feed front ≡ Some at → FeedAt held text at
feed_at held text front at is front_is found =
    let all = feed_in_front text at (subst (λ (xs : List ℕ). position is_feed xs ≡ Some at) front_is found) in
    let size : length text ≡ length (within held) = ap (λ (xs : List ℕ). length xs) is in
    record { found = all.0; short = all.1; inside = all.2; fits = omega (arith, all.2, size, most_within held.credit held.bytes) }

pub gave_by_feed : (held new : Held) (text line : List ℕ) (at : ℕ) → text ≡ within held → position is_feed text ≡ Some at → line ≡ take at text → new.bytes ≡ drop (at + 1) held.bytes → new.credit ≡ held.credit → new.ended ≡ held.ended → GaveByFeed held line new
gave_by_feed held new text line at is found line_is bytes credit ended =
    let inside : at < length text = (position-Some is_feed text at 0 found).0 in
    let size : length line ≡ at = ap (λ (xs : List ℕ). length xs) line_is ∙ length-take-le at text (omega (arith, inside)) in
    let length_is : length text ≡ length (within held) = ap (λ (xs : List ℕ). length xs) is in
    let fits : at + 1 ≤ length (within held) = omega (arith, inside, length_is) in
    let behind : length line + 1 ≡ at + 1 = omega (arith, size) in
    record {
      place = ap (λ (xs : List ℕ). position is_feed xs) (sym is) ∙ (found ∙ ap (λ (n : ℕ). Some n) (sym size));
      front = line_is ∙ (ap (λ (xs : List ℕ). take at xs) is ∙ ap (λ (n : ℕ). take n (within held)) (sym size));
      rest = ap (λ (xs : List ℕ). within_limit new.credit xs) bytes
          ∙ (ap (λ (n : ℕ). within_limit n (drop (at + 1) held.bytes)) credit
          ∙ (drop_within held.credit (at + 1) held.bytes fits ∙ ap (λ (n : ℕ). drop n (within held)) (sym behind)));
      fewer = (let left : length new.bytes ≡ length (drop (at + 1) held.bytes) = ap (λ (xs : List ℕ). length xs) bytes in omega (arith, left, length-drop (at + 1) held.bytes, fits, most_within held.credit held.bytes));
      credit = credit;
      ended = ended;
    }

-- where no line feed is in the front of what is held, and it is short, it is no whole line
pub open_is : (held : Held) (text : List ℕ) → text ≡ within held → position is_feed (take 256 (within held)) ≡ None → length text < 256 → IsOpen held
open_is held text is none short =
    let size : length text ≡ length (within held) = ap (λ (xs : List ℕ). length xs) is in
    let few : length (within held) < 256 = omega (arith, size, short) in
    record {
      none = subst (λ (xs : List ℕ). position is_feed xs ≡ None) (take_all 256 (within held) (omega (arith, few))) none;
      short = few;
    }

-- where more may be read all that is held may belong to lines
pub within_all : (held : Held) → 0 < held.credit → within held ≡ held.bytes
within_all held some = by held.credit held.bytes some
  where
    by : (n : ℕ) (xs : List ℕ) → 0 < n → within_limit n xs ≡ xs
    by n xs some = grind (arith, nat_tests)

-- bytes are left at the end of an input
pub gave_last : (held new : Held) (line : List ℕ) → IsOpen held → 0 < held.credit → IsTrue held.ended → line ≡ held.bytes → 0 < length line → new ≡ record held { bytes = [] } → GaveLast held line new
gave_last held new line unended credit ended is some new_is = record {
  unended = subst (λ (xs : List ℕ). position is_feed xs ≡ None) (within_all held credit ∙ sym is) unended.none;
  some = some;
  ended = ended;
  credit = credit;
  line_is = is;
  new_is = new_is;
}

-- they fit a line
pub last_fits : (held : Held) → IsOpen held → 0 < held.credit → length held.bytes ≤ 255
last_fits held unended credit =
    let size : length (within held) ≡ length held.bytes = ap (λ (xs : List ℕ). length xs) (within_all held credit) in
    omega (arith, size, unended.short)

pub falls : (old new : ℕ) (ended : Bool) → new ≤ old → ended ≡ (new == old) → new + cond ended 0 1 < old + 1
falls old new true less is = omega (arith, less)
falls old new false less is = grind (arith, nat_tests)
