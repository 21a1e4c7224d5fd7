-- What a line of a text says, or that its form is wrong.
use Rattle.std.specs.Prelude.{ℕ, ◌==◌, nat_lt, if◌then◌else◌, List, [], ◌∷◌, length, drop, find, slice_get, slice_index, Option, Some, None, option_and_then}
use Rattle.std.specs.Option.{option_map}
use Rattle.std.specs.Str.{bytes_eq}
use Rattle.pm_io.specs.Lines.{is_readable}
use Rattle.pm_io.specs.Words.{word_texts}
use Rattle.pm_io.specs.Numbers.{number_of, numbers_in, at_most, greatest_number}
use Rattle.pm_object.specs.declared.object.Pair.{Pair}
use Rattle.pm_object.specs.declared.object.Section.{Section}
use Rattle.pm_objtext.specs.declared.names.Keyword.{Keyword}
use Rattle.pm_objtext.specs.declared.names.Keyword.TheVariants as keywords
use Rattle.pm_objtext.specs.declared.item.Item.{Item}
use Rattle.pm_objtext.specs.declared.item.Item.TheVariants.{Empty, Header, Opens, Master, Slave, Group, Prefer, Power, Reset, Shutdown, Config, Gpo}
use Rattle.pm_objtext.specs.Names.{all_keywords, all_sections, keyword_text, section_text}

-- ---- words and numbers

-- a number of 32 bits
abbrev pub number : List ℕ → Option ℕ
number word = at_most greatest_number (number_of word)

-- the words of a line after the first one as numbers, where there are at most 16
unfoldable pub numbers : List (List ℕ) → Option (List ℕ)
numbers words = if nat_lt 16 (length words) then None else numbers_in greatest_number words

-- ---- items

abbrev pub keyword_of : List ℕ → Option Keyword
keyword_of word = find (λ k. bytes_eq (keyword_text k) word) all_keywords

abbrev pub section_of : List ℕ → Option Section
section_of word = find (λ s. bytes_eq (section_text s) word) all_sections

-- the section that a line of two words begins
abbrev pub opening : Option (List ℕ) → Option (List ℕ) → Option Item
opening None more = None
opening (Some name) None = option_map Opens (section_of name)
opening (Some name) (Some word) = None

abbrev pub master_of : List ℕ → Option Item
master_of ns = if length ns == 5 then Some (Master (record { node = slice_index ns 0; mask = slice_index ns 1; timeout = slice_index ns 2; suspend = slice_index ns 3; wake = slice_index ns 4 })) else None

abbrev pub slave_of : List ℕ → Option Item
slave_of ns = if length ns == 3 then Some (Slave (record { node = slice_index ns 0; flags = slice_index ns 1; mask = slice_index ns 2 })) else None

abbrev pub group_of : List ℕ → Option Item
group_of ns = if length ns == 1 then Some (Group (slice_index ns 0)) else None

abbrev pub preset_of : List ℕ → Option Item
preset_of ns = if length ns == 4 then Some (Prefer (record { node = slice_index ns 0; flags = slice_index ns 1; current = slice_index ns 2; preset = slice_index ns 3 })) else None

abbrev pub pair_of : List ℕ → Option Pair
pair_of ns = if length ns == 2 then Some (record { key = slice_index ns 0; mask = slice_index ns 1 }) else None

abbrev pub config_of : List ℕ → Option Item
config_of ns = if length ns == 2 then Some (Config (slice_index ns 0) (slice_index ns 1)) else None

abbrev pub gpo_of : List ℕ → Option Item
gpo_of ns = if length ns == 1 then Some (Gpo (slice_index ns 0)) else None

-- a keyword with its numbers
abbrev pub record_of : Keyword → List ℕ → Option Item
record_of keywords.Header ns = Some (Header (record { items = ns }))
record_of keywords.Section ns = None
record_of keywords.Master ns = master_of ns
record_of keywords.Slave ns = slave_of ns
record_of keywords.Group ns = group_of ns
record_of keywords.Prefer ns = preset_of ns
record_of keywords.Power ns = option_map Power (pair_of ns)
record_of keywords.Reset ns = option_map Reset (pair_of ns)
record_of keywords.Shutdown ns = option_map Shutdown (pair_of ns)
record_of keywords.Config ns = config_of ns
record_of keywords.Gpo ns = gpo_of ns

-- a section has a name after its keyword, each other keyword has numbers
abbrev pub keyword_item : Keyword → List (List ℕ) → Option Item
keyword_item keywords.Section words = opening (slice_get words 1) (slice_get words 2)
keyword_item keyword words = option_and_then (record_of keyword) (numbers (drop 1 words))

-- the words of a line by the first one, where there is one
abbrev pub words_item : Option (List ℕ) → List (List ℕ) → Option Item
words_item None words = Some Empty
words_item (Some first) words = option_and_then (λ keyword. keyword_item keyword words) (keyword_of first)

-- what a line says; None where its form is wrong
unfoldable pub item_of : List ℕ → Option Item
item_of line = if is_readable line then words_item (slice_get (word_texts line) 0) (word_texts line) else None
