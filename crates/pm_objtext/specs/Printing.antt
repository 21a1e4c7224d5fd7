-- The text of an object.
use Rattle.std.specs.Prelude.{ℕ, ◌-◌, ◌/◌, List, [], ◌∷◌, ◌++◌, length, decimal}
use Rattle.std.specs.List.{flat_map}
use Rattle.pm_object.specs.declared.object.Object.{Object}
use Rattle.pm_object.specs.Grammar.{master_words, slave_words, preset_words, pair_words}
use Rattle.pm_objtext.specs.declared.names.Keyword.{Keyword}
use Rattle.pm_objtext.specs.declared.names.Keyword.TheVariants as keywords
use Rattle.pm_objtext.specs.declared.item.Item.{Item}
use Rattle.pm_objtext.specs.declared.item.Item.TheVariants.{Empty, Header, Opens, Master, Slave, Group, Prefer, Power, Reset, Shutdown, Config, Gpo}
use Rattle.pm_objtext.specs.Items.{header_lines, section_items}
use Rattle.pm_objtext.specs.Names.{keyword_text, section_text}

-- ---- the lines

-- a number after a word: a space and its decimal digits
abbrev pub number_text : ℕ → List ℕ
number_text n = 32 ∷ decimal n

-- a line of a keyword and numbers
abbrev pub numbers_line : Keyword → List ℕ → List ℕ
numbers_line keyword numbers = keyword_text keyword ++ flat_map number_text numbers

-- the line that says an item, without its line feed
abbrev pub line_of : Item → List ℕ
line_of Empty = []
line_of (Header extra) = numbers_line keywords.Header extra.items
line_of (Opens section) = keyword_text keywords.Section ++ 32 ∷ section_text section
line_of (Master m) = numbers_line keywords.Master (master_words m)
line_of (Slave s) = numbers_line keywords.Slave (slave_words s)
line_of (Group mask) = numbers_line keywords.Group (mask ∷ [])
line_of (Prefer rec) = numbers_line keywords.Prefer (preset_words rec)
line_of (Power pair) = numbers_line keywords.Power (pair_words pair)
line_of (Reset pair) = numbers_line keywords.Reset (pair_words pair)
line_of (Shutdown pair) = numbers_line keywords.Shutdown (pair_words pair)
line_of (Config base overlay) = numbers_line keywords.Config (base ∷ overlay ∷ [])
line_of (Gpo word) = numbers_line keywords.Gpo (word ∷ [])

abbrev pub ended_line : Item → List ℕ
ended_line item = line_of item ++ 10 ∷ []

-- the lines of items, each with its line feed
abbrev pub lines_text : List Item → List ℕ
lines_text items = flat_map ended_line items

-- ---- the items of an object

-- one line where there are no extra header words; else each line but the last has 16, and the last 1 to 16
abbrev pub header_items : List ℕ → List Item
header_items extra = header_lines ((length extra - 1) / 16) extra

-- the header and the sections, in the object's order
abbrev pub items_of : Object → List Item
items_of o = header_items o.extra ++ flat_map (section_items o) o.order

-- the text of an object
unfoldable pub text_of : Object → List ℕ
text_of o = lines_text (items_of o)
