-- Taking the first line off a text.
use Rattle.std.proofs.Common.{◌≡◌, ℕ, ◌+◌, ◌<◌, ◌≤◌, ◌==◌, ◌&&◌, Bool, true, false, cond, Some, None, List, [], ◌∷◌, length, take, drop, position, refl, arith, nat_le, nat_lt}
use Rattle.std.specs.List.{list_all, position_or_len}
use Rattle.std.proofs.lemmas.Bool.Decides.{nat_tests}
use Rattle.std.proofs.lemmas.List.Quantifiers.{position-Some}
use Rattle.std.proofs.lemmas.List.Sums.{position_or_len_is, fails_before_first}
use Rattle.std.proofs.lemmas.List.Splits.{slice_split_first, slice_split_none, length-slice_split}
use Rattle.pm_io.specs.Lines.{is_plain, parts_of, lines_of_parts}
use Rattle.pm_base.proofs.Booleans.{both, later_passes, pair_of}

abbrev pub is_feed : ℕ → Bool
is_feed byte = byte == 10

-- a part with others after it is a line
part_is_line : (least : ℕ) (part : List ℕ) (parts : List (List ℕ)) → 0 < length parts → lines_of_parts least (part ∷ parts) ≡ part ∷ lines_of_parts least parts
part_is_line least part [] some = absurd (omega arith)
part_is_line least part (next ∷ parts) some = refl

-- what stands before the first line feed is a line
pub line_by_feed : (least : ℕ) (text : List ℕ) (at : ℕ) → position is_feed text ≡ Some at → lines_of_parts least (parts_of text) ≡ take at text ∷ lines_of_parts least (parts_of (drop (at + 1) text))
line_by_feed least text at found =
    let places = position-Some is_feed text at 0 found in
    let first : position_or_len is_feed text ≡ at = position_or_len_is is_feed text at 0 (omega arith) places.2 (λ _. places.1) in
    let within : position_or_len is_feed text < length text = omega arith in
    let split : parts_of text ≡ take at text ∷ parts_of (drop (at + 1) text) = rw first at (slice_split_first is_feed text 0 within) in
    let some : 0 < length (parts_of (drop (at + 1) text)) = omega (arith, length-slice_split is_feed (drop (at + 1) text)) in
    rw split (part_is_line least (take at text) (parts_of (drop (at + 1) text)) some)

fails_where_none : (b : Bool) (n : ℕ) → cond b (Some n) None ≡ None → b ≡ false
fails_where_none true n none = cc
fails_where_none false n none = refl

-- a text without a line feed is one part
one_part : (text : List ℕ) → position is_feed text ≡ None → parts_of text ≡ text ∷ []
one_part text none =
    let fails : nat_lt (position_or_len is_feed text) (length text) ≡ false = fails_where_none (nat_lt (position_or_len is_feed text) (length text)) (position_or_len is_feed text) none in
    let past : length text ≤ position_or_len is_feed text = grind (arith, nat_tests) in
    slice_split_none is_feed text (λ k d within. fails_before_first is_feed text k d (omega arith))

-- a last part that is long enough is a line
pub last_line : (least : ℕ) (text : List ℕ) → position is_feed text ≡ None → least ≤ length text → lines_of_parts least (parts_of text) ≡ text ∷ []
last_line least text none enough = rw (one_part text none) (grind (arith, nat_tests))

-- a shorter one is none
pub no_line : (least : ℕ) (text : List ℕ) → position is_feed text ≡ None → length text < least → lines_of_parts least (parts_of text) ≡ []
no_line least text none short = rw (one_part text none) (grind (arith, nat_tests))

-- printable bytes may stand in a line
pub printable_is_plain : (text : List ℕ) → list_all (λ byte. nat_le 32 byte && nat_le byte 126) text ≡ true → list_all is_plain text ≡ true
printable_is_plain [] printable = refl
printable_is_plain (byte ∷ text) printable =
    let parts = both (nat_le 32 byte && nat_le byte 126) (list_all (λ byte. nat_le 32 byte && nat_le byte 126) text) printable in
    let first = later_passes (byte == 9) (nat_le 32 byte && nat_le byte 126) parts.0 in
    pair_of (is_plain byte) (list_all is_plain text) first (printable_is_plain text parts.1)
