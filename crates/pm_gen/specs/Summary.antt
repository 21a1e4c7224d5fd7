-- What is said of the run of a script that was made: how many lines the script has, and how many lines of the run's text have
-- each of five names.
use Rattle.std.specs.Prelude.{ℕ, ◌≡◌, ◌+◌, ◌^◌, ◌<◌, ◌==◌, nat_le, not, if◌then◌else◌, Bool, true, false, List, [], ◌∷◌, ◌++◌, codes, count_by, decimal, length, slice_get, Option, Some, None}
use Rattle.std.specs.List.{list_all}
use Rattle.std.specs.Str.{bytes_eq}
use Rattle.pm_io.specs.Lines.{lines_of, parts_of}
use Rattle.pm_io.specs.Words.{word_texts}
use Rattle.pm_gen.specs.declared.summary.Counts.{Counts}
use Rattle.pm_gen.specs.declared.summary.Name.{Name}
use Rattle.pm_gen.specs.declared.summary.Name.TheVariants.{Set, Run, Reply, Drop, Call}

-- a word is this name
abbrev pub is_name : List ℕ → Option (List ℕ) → Bool
is_name name None = false
is_name name (Some word) = bytes_eq word name

-- the second word of a line is this name: the first one is the number of a step, or begins a line of the closing table
abbrev pub has_name : List ℕ → List ℕ → Bool
has_name name line = is_name name (slice_get (word_texts line) 1)

-- how many lines of a text have this name
abbrev pub lines_named : List ℕ → List ℕ → ℕ
lines_named name text = count_by (has_name name) (parts_of text)

-- a line of the summary
abbrev pub counted : List ℕ → ℕ → List ℕ
counted name count = name ++ 32 ∷ decimal count ++ 10 ∷ []

-- the line of a name
abbrev pub count_of : List ℕ → List ℕ → List ℕ
count_of text name = counted name (lines_named name text)

-- six lines: a script that was made from a number has two lines more than that
abbrev pub summary : ℕ → List ℕ → List ℕ
summary n text =
    counted (codes "lines") (n + 2) ++ count_of text (codes "set") ++ count_of text (codes "run")
    ++ count_of text (codes "reply") ++ count_of text (codes "drop") ++ count_of text (codes "call")

-- ---- the counts of one pass over the text

-- one more where a test holds
abbrev more : Bool → ℕ → ℕ
more found count = if found then count + 1 else count

-- the counts with one more line, of whose words this is the second
abbrev pub with_word : Counts → Option (List ℕ) → Counts
with_word counts word = record {
  sets = more (is_name (codes "set") word) counts.sets;
  runs = more (is_name (codes "run") word) counts.runs;
  replies = more (is_name (codes "reply") word) counts.replies;
  drops = more (is_name (codes "drop") word) counts.drops;
  calls = more (is_name (codes "call") word) counts.calls;
}

-- the counts with one more line
abbrev pub with_line : Counts → List ℕ → Counts
with_line counts line = with_word counts (slice_get (word_texts line) 1)

-- how a name is spelled
abbrev pub spelled : Name → List ℕ
spelled Set = codes "set"
spelled Run = codes "run"
spelled Reply = codes "reply"
spelled Drop = codes "drop"
spelled Call = codes "call"

-- the counts with one more line of a name
abbrev pub with_name : Counts → Name → Counts
with_name counts Set = record counts { sets = counts.sets + 1 }
with_name counts Run = record counts { runs = counts.runs + 1 }
with_name counts Reply = record counts { replies = counts.replies + 1 }
with_name counts Drop = record counts { drops = counts.drops + 1 }
with_name counts Call = record counts { calls = counts.calls + 1 }

-- how many lines of a text have each name
abbrev pub counts_of : List ℕ → Counts
counts_of text = record {
  sets = lines_named (codes "set") text;
  runs = lines_named (codes "run") text;
  replies = lines_named (codes "reply") text;
  drops = lines_named (codes "drop") text;
  calls = lines_named (codes "call") text;
}

-- one more of each can be counted
abbrev pub HasRoom : Counts → Type 0
HasRoom counts = record {
  sets : counts.sets + 1 < 2 ^ 64;
  runs : counts.runs + 1 < 2 ^ 64;
  replies : counts.replies + 1 < 2 ^ 64;
  drops : counts.drops + 1 < 2 ^ 64;
  calls : counts.calls + 1 < 2 ^ 64;
}

-- the first line of a text was counted, and this is left after it
pub record HasCounted (old new : Counts) (text after : List ℕ) : Type 0 where
  pub line : List ℕ
  pub lines : lines_of text ≡ line ∷ lines_of after
  pub counts : new ≡ with_line old line

-- a text begins with a word, of bytes behind the number sign, and a space, and this stands behind them
pub record IsBehindWord (text behind : List ℕ) : Type 0 where
  pub word : List ℕ
  pub begun : 0 < length word
  pub plain : list_all (λ byte. not (nat_le byte 35)) word ≡ true
  pub is : text ≡ word ++ 32 ∷ behind

-- this stands behind the first line feed of a text
pub record IsBehindFeed (text behind : List ℕ) : Type 0 where
  pub front : List ℕ
  pub unfed : list_all (λ byte. not (byte == 10)) front ≡ true
  pub is : text ≡ front ++ 10 ∷ behind

-- the second word of the first line of a text is this name, and this is left after that line
pub record IsNamed (name : Name) (text after : List ℕ) : Type 0 where
  pub line : List ℕ
  pub lines : lines_of text ≡ line ∷ lines_of after
  pub second : slice_get (word_texts line) 1 ≡ Some (spelled name)
