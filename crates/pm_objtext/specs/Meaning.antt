-- What the text of an object means.
use Rattle.std.specs.Prelude.{◌≡◌, ℕ, ◌+◌, ◌*◌, ◌≤◌, List, [], ◌∷◌, ◌++◌, length, Option, Some, option_and_then}
use Rattle.std.specs.List.{flat_map}
use Rattle.std.specs.Option.{option_map}
use Rattle.pm_io.specs.Lines.{lines_of}
use Rattle.pm_object.specs.declared.object.Object.{Object}
use Rattle.pm_object.specs.Grammar.{IsObject}
use Rattle.pm_objtext.specs.declared.item.Item.{Item}
use Rattle.pm_objtext.specs.declared.item.Item.TheVariants.{Empty}
use Rattle.pm_objtext.specs.Items.{header_lines, section_items}
use Rattle.pm_objtext.specs.Reading.{item_of}

-- the most bytes of a text
abbrev pub most_bytes : ℕ
most_bytes = 1048576

-- a line's item before those of later lines. A line that is empty or a comment has none
abbrev pub item_before : Item → List Item → List Item
item_before Empty items = items
item_before item items = item ∷ items

-- the items of lines, one a line. None where the form of a line is wrong
abbrev pub items_in : List (List ℕ) → Option (List Item)
items_in [] = Some []
items_in (line ∷ lines) = option_and_then (λ item. option_map (item_before item) (items_in lines)) (item_of line)

-- the items are those of the object in its order: its further header words, and its sections with what stands in them.
-- `full` header lines have 16 words each, and the last one has the words that are left, at most 16
pub record AreItemsOf (items : List Item) (o : Object) : Type 0 where
  pub full : ℕ
  pub least : 16 * full ≤ length o.extra
  pub most : length o.extra ≤ 16 * full + 16
  pub are : items ≡ header_lines full o.extra ++ flat_map (section_items o) o.order

-- the text means this object, which is well formed: its lines have items, and these are the object's
pub record Means (text : List ℕ) (o : Object) : Type 0 where
  pub short : length text ≤ most_bytes
  pub items : List Item
  pub lines : items_in (lines_of text) ≡ Some items
  pub listed : AreItemsOf items o
  pub object : IsObject o
