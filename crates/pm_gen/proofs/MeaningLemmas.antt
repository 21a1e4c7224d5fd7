-- Each line of a script that is made has a meaning, and so many lines have so many bytes at most.
use Rattle.std.proofs.Common.{◌≡◌, ℕ, zero, suc, ◌+◌, ◌-◌, ◌*◌, ◌/◌, ◌%◌, ◌^◌, ◌<◌, ◌≤◌, ◌&&◌, Bool, true, false, not, nat_le, List, [], ◌∷◌, ◌++◌, length, take, append_assoc, codes, map, Result, Ok, Err, refl, sym, ap, ◌∙◌, subst, arith, inl, inr}
use Rattle.std.specs.List.{list_all, onto_first}
use Rattle.std.specs.Fmt.{digits}
use Rattle.std.specs.Str.{bytes_eq}
use Rattle.std.proofs.lemmas.Bool.{cases_lt}
use Rattle.std.proofs.lemmas.Bool.Decides.{nat_tests}
use Rattle.std.proofs.lemmas.List.{length-append}
use Rattle.std.proofs.lemmas.List.Splits.{slice_split-cons_no, slice_split-cons_yes, length-slice_split}
use Rattle.std.proofs.lemmas.Slice.Eq.{bytes_eq-Decides}
use Rattle.pm_base.specs.declared.events.Event.{Event}
use Rattle.pm_io.specs.Lines.{lines_of, lines_of_parts, parts_of}
use Rattle.pm_io.specs.Words.{is_blank, words}
use Rattle.pm_io.proofs.LinesLemmas.{is_feed}
use Rattle.pm_script.specs.declared.meaning.LineFault.{LineFault}
use Rattle.pm_script.specs.Meaning.{meaning}
use Rattle.pm_gen.specs.Script.{HasMeaning, line_by, line_of, lines_from, made, next, opening}

both : (a b : Bool) → (a && b) ≡ true → (a ≡ true) × (b ≡ true)
both true b holds = (refl, holds)
both false b holds = cc

is_false : (b : Bool) → not b ≡ true → b ≡ false
is_false true is = cc
is_false false is = refl

-- ---- a test of every number below one

abbrev holds_below : ℕ → (ℕ → Bool) → Bool
holds_below zero test = true
holds_below (suc n) test = test n && holds_below n test

below : (n i : ℕ) (test : ℕ → Bool) → i < n → holds_below n test ≡ true → test i ≡ true
below zero i test within holds = absurd (omega arith)
below (suc n) i test within holds = elim (cases_lt i n) [
  | inl less ↦ below n i test less (both (test n) (holds_below n test) holds).1
  | inr last ↦ let same : n ≡ i = omega arith in subst (λ (k : ℕ). test k ≡ true) same (both (test n) (holds_below n test) holds).0
]

-- ---- a line

-- a line without its line feed
abbrev front : List ℕ → List ℕ
front text = take (length text - 1) text

abbrev has_event : Result Event LineFault → Bool
has_event (Ok event) = true
has_event (Err fault) = false

abbrev pub no_feed : List ℕ → Bool
no_feed bytes = list_all (λ byte. not (is_feed byte)) bytes

-- a text is one line of at most 18 bytes, with a meaning
abbrev is_line : List ℕ → Bool
is_line text = (bytes_eq (front text ++ 10 ∷ []) text && no_feed (front text)) && (has_event (meaning (front text)) && nat_le (length text) 18)

record IsLine (text : List ℕ) : Type 0 where
  pub bytes : List ℕ
  pub event : Event
  pub is : bytes ++ 10 ∷ [] ≡ text
  pub one : no_feed bytes ≡ true
  pub means : meaning bytes ≡ Ok event
  pub short : length text ≤ 18

event_of : (means : Result Event LineFault) → has_event means ≡ true → (event : Event) × (means ≡ Ok event)
event_of (Ok event) is = (event, refl)
event_of (Err fault) is = cc

line_is : (text : List ℕ) → is_line text ≡ true → IsLine text
line_is text holds =
    let halves = both (bytes_eq (front text ++ 10 ∷ []) text && no_feed (front text)) (has_event (meaning (front text)) && nat_le (length text) 18) holds in
    let whole = both (bytes_eq (front text ++ 10 ∷ []) text) (no_feed (front text)) halves.0 in
    let said = both (has_event (meaning (front text))) (nat_le (length text) 18) halves.1 in
    let event = event_of (meaning (front text)) said.0 in
    let fits : nat_le (length text) 18 ≡ true = said.1 in
    record {
      bytes = front text;
      event = event.0;
      is = (bytes_eq-Decides (front text ++ 10 ∷ []) text).0 whole.0;
      one = whole.1;
      means = event.1;
      short = grind (arith, nat_tests);
    }

-- every kind of line, with every rest that a number has of 50
each_line : holds_below 16 (λ kind. holds_below 50 (λ rest. is_line (line_by kind rest))) ≡ true
unfolding digits is_blank words
each_line = refl

-- a slave is one of 5 and a tick is less than 50
same_rest : (kind rest : ℕ) → line_by kind rest ≡ line_by kind (rest % 50)
same_rest kind rest =
    let slave : rest % 50 % 5 ≡ rest % 5 = omega arith in
    let tick : rest % 50 % 50 ≡ rest % 50 = omega arith in
    rw slave (rw tick refl)

line_of_is : (state : ℕ) → IsLine (line_of state)
line_of_is state =
    let kind : ℕ = state / 2 ^ 33 % 16 in
    let rest : ℕ = state / 2 ^ 33 / 16 in
    let row : holds_below 50 (λ rest. is_line (line_by kind rest)) ≡ true = below 16 kind (λ kind. holds_below 50 (λ rest. is_line (line_by kind rest))) (omega arith) each_line in
    let here : is_line (line_by kind (rest % 50)) ≡ true = below 50 (rest % 50) (λ rest. is_line (line_by kind rest)) (omega arith) row in
    subst IsLine (sym (same_rest kind rest)) (line_is (line_by kind (rest % 50)) here)

-- ---- lines after one another

parts_after : (bytes rest : List ℕ) → no_feed bytes ≡ true → parts_of (bytes ++ 10 ∷ rest) ≡ bytes ∷ parts_of rest
parts_after [] rest one = slice_split-cons_yes is_feed 10 rest refl
parts_after (byte ∷ bytes) rest one =
    let here = both (not (is_feed byte)) (no_feed bytes) one in
    slice_split-cons_no is_feed byte (bytes ++ 10 ∷ rest) (is_false (is_feed byte) here.0)
    ∙ ap (onto_first byte) (parts_after bytes rest here.1)

-- a part with others after it is a line
more_parts : (part : List ℕ) (parts : List (List ℕ)) → 0 < length parts → lines_of_parts 1 (part ∷ parts) ≡ part ∷ lines_of_parts 1 parts
more_parts part [] some = absurd (omega arith)
more_parts part (next ∷ parts) some = refl

pub lines_after : (bytes rest : List ℕ) → no_feed bytes ≡ true → lines_of (bytes ++ 10 ∷ rest) ≡ bytes ∷ lines_of rest
lines_after bytes rest one =
    let some : 0 < length (parts_of rest) = omega (arith, length-slice_split is_feed rest) in
    ap (lines_of_parts 1) (parts_after bytes rest one) ∙ more_parts bytes (parts_of rest) some

-- a line before a text whose lines have a meaning
line_before : (line rest : List ℕ) → IsLine line → HasMeaning rest → HasMeaning (line ++ rest)
line_before line rest first more = (
  first.event ∷ more.0,
  ap (λ (line : List ℕ). map meaning (lines_of (line ++ rest))) (sym first.is)
      ∙ ap (λ (text : List ℕ). map meaning (lines_of text)) (append_assoc first.bytes (10 ∷ []) rest)
      ∙ ap (map meaning) (lines_after first.bytes rest first.one)
      ∙ ap (λ (means : Result Event LineFault). means ∷ map meaning (lines_of rest)) first.means
      ∙ ap (λ (more : List (Result Event LineFault)). Ok first.event ∷ more) more.1,
)

no_lines : HasMeaning []
no_lines = ([], refl)

lines_have_meaning : (count state : ℕ) → HasMeaning (lines_from count state)
unfolding lines_from
lines_have_meaning zero state = no_lines
lines_have_meaning (suc count) state = line_before (line_of (next state)) (lines_from count (next state)) (line_of_is (next state)) (lines_have_meaning count (next state))

lines_are_short : (count state : ℕ) → length (lines_from count state) ≤ 18 * count
unfolding lines_from
lines_are_short zero state = omega arith
lines_are_short (suc count) state =
    let first : length (line_of (next state)) ≤ 18 = (line_of_is (next state)).short in
    let more : length (lines_from count (next state)) ≤ 18 * count = lines_are_short count (next state) in
    let sum : length (line_of (next state) ++ lines_from count (next state)) ≡ length (line_of (next state)) + length (lines_from count (next state)) = length-append (line_of (next state)) (lines_from count (next state)) in
    omega arith

set_is : is_line (codes "ipi 1 21\n") ≡ true
unfolding digits is_blank words
set_is = refl

boot_is : is_line (codes "boot 7 0\n") ≡ true
unfolding digits is_blank words
boot_is = refl

pub made_has_meaning : (n : ℕ) → HasMeaning (made n)
made_has_meaning n =
    line_before (codes "ipi 1 21\n") (codes "boot 7 0\n" ++ lines_from n n) (line_is (codes "ipi 1 21\n") set_is)
    (line_before (codes "boot 7 0\n") (lines_from n n) (line_is (codes "boot 7 0\n") boot_is) (lines_have_meaning n n))

pub made_is_short : (n : ℕ) → length (made n) ≤ 18 * (n + 1)
made_is_short n =
    let more : length (lines_from n n) ≤ 18 * n = lines_are_short n n in
    let sum : length (opening ++ lines_from n n) ≡ length opening + length (lines_from n n) = length-append opening (lines_from n n) in
    let begins : length opening ≡ 18 = refl in
    omega arith
