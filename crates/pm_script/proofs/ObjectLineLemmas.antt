-- The words of a line that attaches them are read one after another.
use Rattle.std.proofs.Common.{◌≡◌, ℕ, zero, suc, ◌+◌, ◌-◌, ◌*◌, ◌≤◌, ◌==◌, Bool, true, false, if◌then◌else◌, List, [], ◌∷◌, ◌++◌, length, drop, take, map, Option, Some, None, option_map, slice_get, slice_index, Ok, Err, refl, sym, ap, ◌∙◌, subst, arith}
use Rattle.std.proofs.lemmas.Grind.{common_steps}
use Rattle.std.specs.Prelude.{IfSome}
use Rattle.std.proofs.lemmas.List.{append-nil, append_assoc, length-append, take_all}
use Rattle.pm_io.specs.Lines.{without_return}
use Rattle.pm_io.specs.Words.{is_blank, text_between, words, words_from, word_texts}
use Rattle.pm_base.specs.declared.events.Event.TheVariants.{Attach}
use Rattle.pm_base.proofs.ListLemmas.{take_next}
use Rattle.pm_script.specs.declared.meaning.LineFault.TheVariants.{Count}
use Rattle.pm_script.specs.ObjectLine.{attach_event, numbers_of, with_number}
use Rattle.pm_script.specs.Sentences.{number_of_word}

-- numbers before others
abbrev pub joined : List ℕ → Option (List ℕ) → Option (List ℕ)
joined front rest = option_map (λ more. front ++ more) rest

joined_more : (front : List ℕ) (number : ℕ) (rest : Option (List ℕ)) → joined (front ++ number ∷ []) rest ≡ joined front (with_number (Some number) rest)
joined_more front number None = refl
joined_more front number (Some more) = ap Some (append_assoc front (number ∷ []) more)

-- the numbers that were read, before those of the words that are left, are all numbers
module _ (line front : List ℕ) (left : List (ℕ × ℕ)) (whole : Option (List ℕ)) (so_far : joined front (numbers_of (map (text_between line) left)) ≡ whole) where
  abbrev with_these : List (ℕ × ℕ) → Option (List ℕ)
  with_these places = joined front (numbers_of (map (text_between line) places))

  -- no word is left
  pub no_more : left ≡ [] → Some front ≡ whole
  no_more none = ap Some (sym (append-nil front)) ∙ sym (ap with_these none) ∙ so_far

  -- the next word is no number
  pub one_bad : (place : ℕ × ℕ) (later : List (ℕ × ℕ)) → left ≡ place ∷ later → number_of_word (text_between line place) ≡ None → None ≡ whole
  one_bad place later is bad =
      ap (λ found. joined front (with_number found (numbers_of (map (text_between line) later)))) (sym bad) ∙ sym (ap with_these is) ∙ so_far

  -- the next word is a number
  pub one_more : (place : ℕ × ℕ) (later : List (ℕ × ℕ)) (number : ℕ) → left ≡ place ∷ later → number_of_word (text_between line place) ≡ Some number
      → joined (front ++ number ∷ []) (numbers_of (map (text_between line) later)) ≡ whole
  one_more place later number is good =
      joined_more front number (numbers_of (map (text_between line) later))
      ∙ ap (λ found. joined front (with_number found (numbers_of (map (text_between line) later)))) (sym good)
      ∙ sym (ap with_these is)
      ∙ so_far

  -- what is left is told in other words
  pub as_well : (later : List (ℕ × ℕ)) → left ≡ later → joined front (numbers_of (map (text_between line) later)) ≡ whole
  as_well later is = sym (ap with_these is) ∙ so_far

-- one byte on: no word ends
pub goes_on : (line text : List ℕ) (at : ℕ) (start next new_start : Option ℕ) (front new : List ℕ) (whole : Option (List ℕ))
    → joined front (numbers_of (map (text_between line) (words_from start at (drop at text)))) ≡ whole
    → words_from start at (drop at text) ≡ words_from next (at + 1) (drop (at + 1) text) → new ≡ front → new_start ≡ next
    → joined new (numbers_of (map (text_between line) (words_from new_start (at + 1) (drop (at + 1) text)))) ≡ whole
goes_on line text at start next new_start front new whole so_far on same begun =
    rw (same, begun) (as_well line front (words_from start at (drop at text)) whole so_far (words_from next (at + 1) (drop (at + 1) text)) on)

-- one byte on: the next word ends before it, and is a number
pub word_ends : (line text : List ℕ) (at first number : ℕ) (start new_start : Option ℕ) (front new : List ℕ) (whole : Option (List ℕ))
    → joined front (numbers_of (map (text_between line) (words_from start at (drop at text)))) ≡ whole
    → words_from start at (drop at text) ≡ (first, at) ∷ words_from None (at + 1) (drop (at + 1) text)
    → number_of_word (text_between line (first, at)) ≡ Some number → new ≡ front ++ number ∷ [] → new_start ≡ None
    → joined new (numbers_of (map (text_between line) (words_from new_start (at + 1) (drop (at + 1) text)))) ≡ whole
word_ends line text at first number start new_start front new whole so_far on good more begun =
    rw (more, begun) (one_more line front (words_from start at (drop at text)) whole so_far (first, at) (words_from None (at + 1) (drop (at + 1) text)) number on good)

-- the last word is a number
pub last_ends : (line : List ℕ) (first past number : ℕ) (front new : List ℕ) (left : List (ℕ × ℕ)) (whole : Option (List ℕ))
    → joined front (numbers_of (map (text_between line) left)) ≡ whole → left ≡ (first, past) ∷ []
    → number_of_word (text_between line (first, past)) ≡ Some number → new ≡ front ++ number ∷ [] → Some new ≡ whole
last_ends line first past number front new left whole so_far last good more =
    rw more (no_more line (front ++ number ∷ []) [] whole (one_more line front left whole so_far (first, past) [] number last good) refl)

-- ---- a word that has begun counts, so that there is room for it

abbrev pub begun_count : Option ℕ → ℕ
begun_count None = 0
begun_count (Some first) = 1

count_one : (start : Option ℕ) (first : ℕ) → start ≡ Some first → begun_count start ≡ 1
count_one start first is = ap begun_count is

count_none : (start : Option ℕ) → start ≡ None → begun_count start ≡ 0
count_none start is = ap begun_count is

-- a word that has begun did so before
pub begun_none : (start : Option ℕ) (at : ℕ) → start ≡ None → IfSome start (λ first. first ≤ at)
begun_none start at is = rw is tt

pub begun_some : (start : Option ℕ) (first at : ℕ) → start ≡ Some first → first ≤ at → IfSome start (λ first. first ≤ at)
begun_some start first at is before = rw is before

pub begun_was : (start : Option ℕ) (first at : ℕ) → IfSome start (λ first. first ≤ at) → start ≡ Some first → first ≤ at
begun_was None first at begun is = cc
begun_was (Some other) first at begun is = let same : other ≡ first = cc in omega (arith, same, begun)

-- one byte on: between words; at a word's beginning; at its end, where its number is put behind the others; and within it
module _ (old new : List ℕ) where
  pub room_between : (at : ℕ) (start next : Option ℕ) → 2 * length old + begun_count start ≤ at → new ≡ old → next ≡ None
      → 2 * length new + begun_count next ≤ at + 1
  room_between at start next room same none =
      let long : length new ≡ length old = ap length same in
      let count : begun_count next ≡ 0 = count_none next none in
      omega arith

  pub room_begins : (at first : ℕ) (start next : Option ℕ) → 2 * length old + begun_count start ≤ at → start ≡ None → new ≡ old → next ≡ Some first
      → 2 * length new + begun_count next ≤ at + 1
  room_begins at first start next room was same begun =
      let long : length new ≡ length old = ap length same in
      let count : begun_count next ≡ 1 = count_one next first begun in
      omega arith

  pub room_ends : (first number at : ℕ) (start next : Option ℕ) → 2 * length old + begun_count start ≤ at → start ≡ Some first → new ≡ old ++ number ∷ [] → next ≡ None
      → 2 * length new + begun_count next ≤ at + 1
  room_ends first number at start next room was more none =
      let long : length new ≡ length old + 1 = ap length more ∙ length-append old (number ∷ []) in
      let one : begun_count start ≡ 1 = count_one start first was in
      let count : begun_count next ≡ 0 = count_none next none in
      omega arith

  pub room_on : (first at : ℕ) (start next : Option ℕ) → 2 * length old + begun_count start ≤ at → start ≡ Some first → new ≡ old → next ≡ Some first
      → 2 * length new + begun_count next ≤ at + 1
  room_on first at start next room was same on =
      let long : length new ≡ length old = ap length same in
      let one : begun_count start ≡ 1 = count_one start first was in
      let count : begun_count next ≡ 1 = count_one next first on in
      omega arith

-- ---- the words after the first one

-- these are words of what is left of a text, and this is the first of them: the others follow from its end on
record Follows (at : ℕ) (bytes : List ℕ) (places : List (ℕ × ℕ)) (place : ℕ × ℕ) : Type 0 where
  count : ℕ
  within : count ≤ length bytes
  end : place.1 ≡ at + count
  others : drop 1 places ≡ words_from None place.1 (drop count bytes)

one_on : (at byte : ℕ) (bytes : List ℕ) (places : List (ℕ × ℕ)) (place : ℕ × ℕ) → Follows (at + 1) bytes places place → Follows at (byte ∷ bytes) places place
one_on at byte bytes places place f =
    record { count = suc f.count; within = omega (arith, f.within); end = omega (arith, f.end); others = f.others }

between : (at : ℕ) (bytes : List ℕ) (place : ℕ × ℕ) (blank comment : Bool) (more word : List (ℕ × ℕ))
    → (slice_get more 0 ≡ Some place → Follows at bytes more place) → (slice_get word 0 ≡ Some place → Follows at bytes word place)
    → slice_get (if blank then more else (if comment then [] else word)) 0 ≡ Some place → Follows at bytes (if blank then more else (if comment then [] else word)) place
between at bytes place true comment more word m w is = m is
between at bytes place false true more word m w is = cc
between at bytes place false false more word m w is = w is

-- a word ends here
ended : (start at : ℕ) (bytes : List ℕ) (later : List (ℕ × ℕ)) (place : ℕ × ℕ) → later ≡ words_from None at bytes → slice_get ((start, at) ∷ later) 0 ≡ Some place → Follows at bytes ((start, at) ∷ later) place
ended start at bytes later place others is =
    let same : (start, at) ≡ place = cc in
    let P : ℕ × ℕ → Type 0 = λ p. Follows at bytes ((start, at) ∷ later) p in
    subst P same (record { count = 0; within = omega arith; end = omega arith; others = others })

-- a word goes on, or ends before a blank
inside : (start at byte : ℕ) (bytes : List ℕ) (place : ℕ × ℕ) (blank : Bool) → is_blank byte ≡ blank
    → (slice_get (words_from (Some start) (at + 1) bytes) 0 ≡ Some place → Follows (at + 1) bytes (words_from (Some start) (at + 1) bytes) place)
    → slice_get (if blank then (start, at) ∷ words_from None (at + 1) bytes else words_from (Some start) (at + 1) bytes) 0 ≡ Some place
    → Follows at (byte ∷ bytes) (if blank then (start, at) ∷ words_from None (at + 1) bytes else words_from (Some start) (at + 1) bytes) place
inside start at byte bytes place true blank on first = ended start at (byte ∷ bytes) (words_from None (at + 1) bytes) place (rw blank refl) first
inside start at byte bytes place false blank on first = one_on at byte bytes (words_from (Some start) (at + 1) bytes) place (on first)

after_first : (start : Option ℕ) (at : ℕ) (bytes : List ℕ) (place : ℕ × ℕ) → slice_get (words_from start at bytes) 0 ≡ Some place → Follows at bytes (words_from start at bytes) place
after_first None at [] place is = cc
after_first None at (byte ∷ bytes) place is =
    between at (byte ∷ bytes) place (is_blank byte) (byte == 35) (words_from None (at + 1) bytes) (words_from (Some at) (at + 1) bytes)
    (λ first. one_on at byte bytes (words_from None (at + 1) bytes) place (after_first None (at + 1) bytes place first))
    (λ first. one_on at byte bytes (words_from (Some at) (at + 1) bytes) place (after_first (Some at) (at + 1) bytes place first))
    is
after_first (Some start) at [] place is = ended start at [] [] place refl is
after_first (Some start) at (byte ∷ bytes) place is =
    inside start at byte bytes place (is_blank byte) refl (λ first. after_first (Some start) (at + 1) bytes place first) is

drop_map : {X Y : Type 0} (f : X → Y) (xs : List X) → map f (drop 1 xs) ≡ drop 1 (map f xs)
drop_map f [] = refl
drop_map f (x ∷ xs) = refl

-- the texts of the words after the first one
pub texts_after : (line : List ℕ) (place : ℕ × ℕ) → slice_get (words line) 0 ≡ Some place
    → (place.1 ≤ length (without_return line)) × (map (text_between line) (words_from None place.1 (drop place.1 (without_return line))) ≡ drop 1 (word_texts line))
unfolding words
texts_after line place is =
    let follows = after_first None 0 (without_return line) place is in
    let end : place.1 ≡ follows.count = omega (arith, follows.end) in (
      omega (arith, follows.within, end),
      ap (λ count. map (text_between line) (words_from None place.1 (drop count (without_return line)))) end
          ∙ ap (map (text_between line)) (sym follows.others)
          ∙ drop_map (text_between line) (words_from None 0 (without_return line)),
    )

pub no_texts : (line : List ℕ) → slice_get (words line) 0 ≡ None → drop 1 (word_texts line) ≡ []
no_texts line none = of (words line) none
  where
    of : (places : List (ℕ × ℕ)) → slice_get places 0 ≡ None → drop 1 (map (text_between line) places) ≡ []
    of [] none = refl
    of (place ∷ places) none = cc

shorter : (line : List ℕ) (b : Bool) → length (if b then take (length line - 1) line else line) ≤ length line
shorter line true = grind (arith, common_steps)
shorter line false = omega arith

pub not_longer : (line : List ℕ) → length (without_return line) ≤ length line
not_longer line = shorter line (slice_index line (length line - 1) == 13)

-- ---- the numbers after the first one

front_more : (front : List ℕ) (number : ℕ) → 1 ≤ length front → drop 1 front ++ number ∷ [] ≡ drop 1 (front ++ number ∷ [])
front_more [] number some = absurd (omega arith)
front_more (first ∷ front) number some = refl

pub next_one : (numbers : List ℕ) (k number : ℕ) → 1 ≤ k → slice_get numbers k ≡ Some number → drop 1 (take k numbers) ++ number ∷ [] ≡ drop 1 (take (k + 1) numbers)
next_one [] k number past is = cc
next_one (first ∷ numbers) zero number past is = absurd (omega arith)
next_one (first ∷ numbers) (suc k) number past is =
    front_more (take (suc k) (first ∷ numbers)) number (omega arith) ∙ ap (drop 1) (sym (take_next (first ∷ numbers) (suc k) number is))

pub all_ones : (numbers : List ℕ) (k : ℕ) → length numbers ≤ k → drop 1 (take k numbers) ≡ drop 1 numbers
all_ones numbers k past = ap (drop 1) (take_all k numbers past)

pub few_ones : (numbers : List ℕ) (k : ℕ) → length (drop 1 (take k numbers)) ≤ k
few_ones numbers k = grind (arith, common_steps)

-- ---- what is attached

pub nothing_attached : (numbers : List ℕ) → length numbers ≡ 0 → attach_event (Some numbers) ≡ Err Count
nothing_attached [] none = refl
nothing_attached (number ∷ numbers) none = absurd (omega arith)

pub words_attached : (numbers : List ℕ) (address : ℕ) → slice_get numbers 0 ≡ Some address → Ok (Attach address (drop 1 numbers)) ≡ attach_event (Some numbers)
words_attached [] address is = cc
words_attached (number ∷ numbers) address is = let same : number ≡ address = cc in ap (λ (n : ℕ). attach_event (Some (n ∷ numbers))) (sym same)
