-- The items of an object: what the lines of its text say, one item a line.
use Rattle.std.specs.Prelude.{ℕ, zero, suc, List, [], ◌∷◌, take, drop, map}
use Rattle.std.specs.List.{flat_map}
use Rattle.pm_object.specs.declared.object.PreGroup.{PreGroup}
use Rattle.pm_object.specs.declared.object.Object.{Object}
use Rattle.pm_object.specs.declared.object.Section.{Section}
use Rattle.pm_object.specs.declared.object.Section.TheVariants as sections
use Rattle.pm_object.specs.Bodies.{Body, body_of}
use Rattle.pm_objtext.specs.declared.item.Item.{Item}
use Rattle.pm_objtext.specs.declared.item.Item.TheVariants.{Header, Opens, Master, Slave, Group, Prefer, Power, Reset, Shutdown, Config, Gpo}

-- so many header lines of 16 words each, and one with the words that are left
abbrev pub header_lines : ℕ → List ℕ → List Item
header_lines zero extra = Header (record { items = extra }) ∷ []
header_lines (suc full) extra = Header (record { items = take 16 extra }) ∷ header_lines full (drop 16 extra)

-- a group, and then what it says of each node
abbrev pub group_items : PreGroup → List Item
group_items group = Group group.mask ∷ map Prefer group.recs

-- what stands in a section, in order
abbrev pub body_items : (s : Section) → Body s → List Item
body_items sections.Masters masters = map Master masters
body_items sections.Slaves slaves = map Slave slaves
body_items sections.Prealloc groups = flat_map group_items groups
body_items sections.Power pairs = map Power pairs
body_items sections.Reset pairs = map Reset pairs
body_items sections.Shutdown pairs = map Shutdown pairs
body_items sections.Config masks = Config masks.0 masks.1 ∷ []
body_items sections.Gpo word = Gpo word ∷ []

-- the items of the records of a section of an object, case by case, so that it computes at each section
abbrev pub record_items : Section → Object → List Item
record_items sections.Masters o = body_items sections.Masters (body_of sections.Masters o)
record_items section o = body_items section (body_of section o)

-- a section: its name, and then what stands in it
abbrev pub section_items : Object → Section → List Item
section_items o section = Opens section ∷ record_items section o
