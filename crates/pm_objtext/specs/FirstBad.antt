-- The first bad line of an object's text, and the first of its causes.
use Rattle.std.specs.Prelude.{ℕ, ◌+◌, nat_lt, if◌then◌else◌, List, [], ◌∷◌, length, Option, Some, None}
use Rattle.pm_io.specs.Lines.{lines_of}
use Rattle.pm_objtext.specs.declared.fault.TextCause.{TextCause}
use Rattle.pm_objtext.specs.declared.fault.TextCause.TheVariants as causes
use Rattle.pm_objtext.specs.declared.fault.TextFault.{TextFault}
use Rattle.pm_objtext.specs.declared.item.Item.{Item}
use Rattle.pm_objtext.specs.Meaning.{most_bytes}
use Rattle.pm_objtext.specs.Reading.{item_of}
use Rattle.pm_objtext.specs.SoFar.{SoFar, start, say}
use Rattle.pm_objtext.specs.Causes.{cause_of, end_cause}

-- why a line is bad that has this item, or whose form is wrong
abbrev pub line_cause : Option Item → SoFar → Option TextCause
line_cause None d = Some causes.Form
line_cause (Some item) d = cause_of item d

-- what the lines say after one that has this item
abbrev pub after_line : Option Item → SoFar → SoFar
after_line None d = d
after_line (Some item) d = say item d

-- a line with this cause against it, or else the first bad one of the later lines
abbrev pub bad_or : Option TextCause → ℕ → Option TextFault → Option TextFault
bad_or None line later = later
bad_or (Some cause) line later = Some (record { line = line; cause = cause })

-- the first bad one of these lines, whose numbers go on from `line`. The end of the text counts as a line
abbrev pub first_bad_from : ℕ → SoFar → List (List ℕ) → Option TextFault
first_bad_from line d [] = bad_or (end_cause d) line None
first_bad_from line d (text ∷ lines) = bad_or (line_cause (item_of text) d) line (first_bad_from (line + 1) (after_line (item_of text) d) lines)

-- what all lines say, where none is bad
abbrev pub said_by : SoFar → List (List ℕ) → SoFar
said_by d [] = d
said_by d (text ∷ lines) = said_by (after_line (item_of text) d) lines

-- the first bad line of a text. A text that is too long is bad as a whole, which line 0 stands for
abbrev pub first_bad : List ℕ → Option TextFault
first_bad text =
    if nat_lt most_bytes (length text) then Some (record { line = 0; cause = causes.Size })
    else first_bad_from 1 start (lines_of text)
