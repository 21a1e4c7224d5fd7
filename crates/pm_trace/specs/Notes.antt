-- The lines of a script line's own notes, which follow those of its core steps.
use Rattle.std.specs.Prelude.{ℕ, Bool, cond, List, [], ◌∷◌, codes, flat_map}
use Rattle.pm_split.specs.Split.{Note}
use Rattle.pm_split.specs.Split.Note.{Busy, Called, Clock, NoTask, Fired, Late}
use Rattle.pm_trace.specs.declared.line.Word.{Word}
use Rattle.pm_trace.specs.declared.line.Word.TheVariants as word
use Rattle.pm_trace.specs.Step.{numbered_line}

-- 1 if a clock runs, else 0
abbrev pub bit : Bool → ℕ
bit on = cond on 1 0

-- the words of a note, behind the number of its line. A post into a full box has the master; a power call the
-- processor and the answer; a missing task its key; the call of a task its key, the time and the word; a clock its
-- number, and whether it ran before and after; words that come too late their address
abbrev pub note_words : Note → List Word
note_words (Busy master) = word.Name (codes "busy") ∷ word.Number master.0 ∷ []
note_words (Called proc code) = word.Name (codes "smc") ∷ word.Number proc.0 ∷ word.Signed code ∷ []
note_words (NoTask key) = word.Name (codes "notask") ∷ word.Number key ∷ []
note_words (Fired key at told) =
    word.Name (codes "task") ∷ word.Address key ∷ word.Address at ∷ word.Number told ∷ []
note_words (Clock number from to) =
    word.Name (codes "clock") ∷ word.Number number ∷ word.Number (bit from) ∷ word.Number (bit to) ∷ []
note_words (Late address) = word.Name (codes "late") ∷ word.Number address ∷ []

-- the text of a note of script line n
abbrev pub note_line : ℕ → Note → List ℕ
note_line n note = numbered_line n (note_words note)

abbrev pub notes_text : ℕ → List Note → List ℕ
notes_text n notes = flat_map (note_line n) notes
