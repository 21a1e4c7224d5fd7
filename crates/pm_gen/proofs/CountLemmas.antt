-- Lines that are counted one after another are counted as a whole.
use Rattle.std.proofs.Common.{◌≡◌, ℕ, ◌+◌, ◌^◌, ◌<◌, ◌≤◌, ◌==◌, Bool, true, false, cond, List, [], ◌∷◌, length, codes, refl, sym, ap, ◌∙◌, arith}
use Rattle.std.specs.List.{count_by}
use Rattle.std.proofs.lemmas.List.Splits.{length-slice_split}
use Rattle.std.proofs.lemmas.List.Sums.{count_by-le-length, sum_by-cons}
use Rattle.std.proofs.lemmas.Bool.Decides.{nat_tests}
use Rattle.pm_io.specs.Lines.{lines_of, lines_of_parts, parts_of}
use Rattle.pm_io.specs.Words.{words}
use Rattle.pm_gen.specs.Summary.{HasRoom, counts_of, has_name, lines_named, with_line}
use Rattle.pm_gen.specs.declared.summary.Counts.{Counts}

abbrev is_feed : ℕ → Bool
is_feed byte = byte == 10

-- the first line of some is counted where it has the name
first_named : (name line : List ℕ) (lines : List (List ℕ)) → count_by (has_name name) (line ∷ lines) ≡ cond (has_name name line) 1 0 + count_by (has_name name) lines
first_named name line lines = sum_by-cons (λ (l : List ℕ). cond (has_name name l) 1 0) line lines

-- an empty line has no second word
empty_line : (name : List ℕ) → has_name name [] ≡ false
unfolding words
empty_line name = refl

last_line : (last : List ℕ) → 0 < length last → lines_of_parts 1 (last ∷ []) ≡ last ∷ []
last_line last some = grind (arith, nat_tests)

-- the last part is no line where it is empty
same_lines : (name : List ℕ) (parts : List (List ℕ)) → count_by (has_name name) (lines_of_parts 1 parts) ≡ count_by (has_name name) parts
same_lines name [] = refl
same_lines name ([] ∷ []) = ap (λ (b : Bool). 0 + cond b 1 0) (sym (empty_line name))
same_lines name ((byte ∷ bytes) ∷ []) = ap (count_by (has_name name)) (last_line (byte ∷ bytes) (omega arith))
same_lines name (part ∷ next ∷ parts) =
    first_named name part (lines_of_parts 1 (next ∷ parts))
    ∙ ap (λ (n : ℕ). cond (has_name name part) 1 0 + n) (same_lines name (next ∷ parts))
    ∙ sym (first_named name part (next ∷ parts))

-- how many lines of what is left have a name
abbrev left_named : List ℕ → List ℕ → ℕ
left_named name left = count_by (has_name name) (lines_of left)

-- what was counted of a text, of which some is left
abbrev pub IsCounted : Counts → List ℕ → List ℕ → Type 0
IsCounted counts left text = record {
  sets : counts.sets + left_named (codes "set") left ≡ lines_named (codes "set") text;
  runs : counts.runs + left_named (codes "run") left ≡ lines_named (codes "run") text;
  replies : counts.replies + left_named (codes "reply") left ≡ lines_named (codes "reply") text;
  drops : counts.drops + left_named (codes "drop") left ≡ lines_named (codes "drop") text;
  calls : counts.calls + left_named (codes "call") left ≡ lines_named (codes "call") text;
}

abbrev none : Counts
none = record { sets = 0; runs = 0; replies = 0; drops = 0; calls = 0 }

none_named : (name text : List ℕ) → 0 + left_named name text ≡ lines_named name text
none_named name text =
    let same : left_named name text ≡ lines_named name text = same_lines name (parts_of text) in
    omega (arith, same)

-- at the start nothing is counted
pub nothing_counted : (text : List ℕ) → IsCounted none text text
nothing_counted text = record {
  sets = none_named (codes "set") text;
  runs = none_named (codes "run") text;
  replies = none_named (codes "reply") text;
  drops = none_named (codes "drop") text;
  calls = none_named (codes "call") text;
}

-- one line more is counted where it has the name
one_more : (found : Bool) (count rest whole : ℕ) → count + (cond found 1 0 + rest) ≡ whole → cond found (count + 1) count + rest ≡ whole
one_more true count rest whole so_far = omega (arith, so_far)
one_more false count rest whole so_far = omega (arith, so_far)

one_more_named : (name line left after : List ℕ) (count whole : ℕ) → lines_of left ≡ line ∷ lines_of after → count + left_named name left ≡ whole → cond (has_name name line) (count + 1) count + left_named name after ≡ whole
one_more_named name line left after count whole first so_far =
    one_more (has_name name line) count (left_named name after) whole
    (ap (λ (n : ℕ). count + n) (sym (ap (count_by (has_name name)) first ∙ first_named name line (lines_of after))) ∙ so_far)

pub line_counted : (counts : Counts) (line left after text : List ℕ) → lines_of left ≡ line ∷ lines_of after → IsCounted counts left text → IsCounted (with_line counts line) after text
line_counted counts line left after text first so_far = record {
  sets = one_more_named (codes "set") line left after counts.sets _ first so_far.sets;
  runs = one_more_named (codes "run") line left after counts.runs _ first so_far.runs;
  replies = one_more_named (codes "reply") line left after counts.replies _ first so_far.replies;
  drops = one_more_named (codes "drop") line left after counts.drops _ first so_far.drops;
  calls = one_more_named (codes "call") line left after counts.calls _ first so_far.calls;
}

-- a count is at most the number of parts, which is at most one more than that of the bytes
small : (name text : List ℕ) (count more : ℕ) → length text < 2 ^ 63 → count + more ≡ lines_named name text → count + 1 < 2 ^ 64
small name text count more short so_far =
    let named : lines_named name text ≤ length (parts_of text) = count_by-le-length (has_name name) (parts_of text) in
    let parts : length (parts_of text) ≡ count_by is_feed text + 1 = length-slice_split is_feed text in
    let feeds : count_by is_feed text ≤ length text = count_by-le-length is_feed text in
    omega (arith, short, so_far, named, parts, feeds)

pub has_room : (counts : Counts) (left text : List ℕ) → length text < 2 ^ 63 → IsCounted counts left text → HasRoom counts
has_room counts left text short so_far = record {
  sets = small (codes "set") text counts.sets _ short so_far.sets;
  runs = small (codes "run") text counts.runs _ short so_far.runs;
  replies = small (codes "reply") text counts.replies _ short so_far.replies;
  drops = small (codes "drop") text counts.drops _ short so_far.drops;
  calls = small (codes "call") text counts.calls _ short so_far.calls;
}

none_left : (name left text : List ℕ) (count : ℕ) → lines_of left ≡ [] → count + left_named name left ≡ lines_named name text → count ≡ lines_named name text
none_left name left text count ends so_far =
    let last : left_named name left ≡ 0 = ap (count_by (has_name name)) ends in
    omega (arith, last, so_far)

-- where no line is left, all are counted
pub all_counted : (counts : Counts) (left text : List ℕ) → lines_of left ≡ [] → IsCounted counts left text → counts ≡ counts_of text
all_counted counts left text ends so_far =
    let sets = none_left (codes "set") left text counts.sets ends so_far.sets in
    let runs = none_left (codes "run") left text counts.runs ends so_far.runs in
    let replies = none_left (codes "reply") left text counts.replies ends so_far.replies in
    let drops = none_left (codes "drop") left text counts.drops ends so_far.drops in
    let calls = none_left (codes "call") left text counts.calls ends so_far.calls in
    let fields : ◌≡◌ {A = Counts} (record { sets = counts.sets; runs = counts.runs; replies = counts.replies; drops = counts.drops; calls = counts.calls }) (counts_of text) = cc in
    fields
