-- What a line of a script means, by the table of line forms.
use Rattle.std.specs.Prelude.{ℕ, ◌&&◌, nat_lt, nat_le, if◌then◌else◌, List, [], ◌∷◌, length, Option, Some, None, ok_or, option_map, Result, Ok, Err, ⊤}
use Rattle.std.specs.List.{list_all}
use Rattle.std.specs.Str.{bytes_eq}
use Rattle.pm_base.specs.declared.events.Event.{Event}
use Rattle.pm_base.specs.declared.events.Event.TheVariants.{Pass}
use Rattle.pm_io.specs.Lines.{without_return, is_plain}
use Rattle.pm_io.specs.Words.{word_texts}
use Rattle.pm_script.specs.declared.meaning.LineFault.{LineFault}
use Rattle.pm_script.specs.declared.meaning.LineFault.TheVariants.{Unknown, Number, Count, Long, NotAscii}
use Rattle.pm_script.specs.Forms.{Row, arguments_of, event_of, row_with}
use Rattle.pm_script.specs.ObjectLine.{object_keyword, object_meaning}

-- what a line of this form means, by the words after its keyword: they are counted before one of them is read
abbrev pub form_meaning : Row → List (List ℕ) → Result Event LineFault
form_meaning row words =
    if nat_le row.least (length words) && nat_le (length words) (length row.widths)
    then ok_or (option_map (event_of row.kind) (arguments_of row.widths words)) Number
    else Err Count

-- what a line means whose first word is no row's keyword: it may attach words
abbrev pub other_meaning : List ℕ → List (List ℕ) → Result Event LineFault
other_meaning keyword words = if bytes_eq keyword object_keyword then object_meaning words else Err Unknown

abbrev pub found_meaning : Option Row → List ℕ → List (List ℕ) → Result Event LineFault
found_meaning None keyword words = other_meaning keyword words
found_meaning (Some row) keyword words = form_meaning row words

-- what a line with these words means: the first row whose keyword is its first word says what kind of line it is
abbrev pub words_meaning : List (List ℕ) → Result Event LineFault
words_meaning [] = Ok Pass
words_meaning (keyword ∷ words) = found_meaning (row_with keyword) keyword words

-- what a line means: an event, or its first fault. A line with no word does nothing
abbrev pub meaning : List ℕ → Result Event LineFault
meaning line =
    if nat_lt 255 (length line) then Err Long
    else (if list_all is_plain (without_return line) then words_meaning (word_texts line) else Err NotAscii)

-- what a line means where the event of it was left in a place, by the answer
abbrev pub left : Result ⊤ LineFault → Event → Result Event LineFault
left (Ok done) event = Ok event
left (Err fault) event = Err fault
