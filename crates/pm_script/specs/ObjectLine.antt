-- The line that attaches words of a configuration object. It has any number of words, so it is no row of the table.
use Rattle.std.specs.Prelude.{ℕ, List, [], ◌∷◌, Option, Some, None, codes, option_map, Result, Ok, Err}
use Rattle.pm_base.specs.declared.events.Event.{Event}
use Rattle.pm_base.specs.declared.events.Event.TheVariants.{Attach}
use Rattle.pm_script.specs.declared.meaning.LineFault.{LineFault}
use Rattle.pm_script.specs.declared.meaning.LineFault.TheVariants.{Number, Count}
use Rattle.pm_script.specs.Sentences.{number_of_word}

-- the first word of such a line
abbrev pub object_keyword : List ℕ
object_keyword = codes "object"

abbrev pub with_number : Option ℕ → Option (List ℕ) → Option (List ℕ)
with_number None numbers = None
with_number (Some number) numbers = option_map (λ more. number ∷ more) numbers

-- the numbers that words are: none if one of them isn't a number of 32 bits
abbrev pub numbers_of : List (List ℕ) → Option (List ℕ)
numbers_of [] = Some []
numbers_of (word ∷ words) = with_number (number_of_word word) (numbers_of words)

-- the event of the numbers of a line: the first of them is the address at which the others are attached
abbrev pub attach_event : Option (List ℕ) → Result Event LineFault
attach_event None = Err Number
attach_event (Some []) = Err Count
attach_event (Some (address ∷ words)) = Ok (Attach address words)

-- `object ADDRESS` and 0 or more words: the words are attached at the address
abbrev pub object_meaning : List (List ℕ) → Result Event LineFault
object_meaning words = attach_event (numbers_of words)
