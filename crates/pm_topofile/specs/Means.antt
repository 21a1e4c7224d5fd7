-- What the text of a topology means: its lines say the entries of the topology, one item a line and in order.
use Rattle.std.specs.Prelude.{◌≡◌, ℕ, ◌<◌, ◌≤◌, List, [], ◌∷◌, ◌++◌, length, map, slice_get, Option, Some, option_and_then}
use Rattle.std.specs.List.{flat_map}
use Rattle.std.specs.Option.{option_map, option_map_or}
use Rattle.pm_io.specs.Lines.{lines_of}
use Rattle.pm_base.specs.declared.names.NodeId.{NodeId}
use Rattle.pm_topology.specs.declared.topology.SlaveDef.{SlaveDef}
use Rattle.pm_topology.specs.declared.topology.ProcDef.{ProcDef}
use Rattle.pm_topology.specs.declared.topology.PowerDef.{PowerDef}
use Rattle.pm_topology.specs.declared.topology.MasterDef.{MasterDef}
use Rattle.pm_topology.specs.declared.topology.Topology.{Topology}
use Rattle.pm_topology.specs.WellFormed.{IsWellFormed}
use Rattle.pm_topofile.specs.declared.item.Item.{Item}
use Rattle.pm_topofile.specs.declared.item.Item.TheVariants.{Empty, Power, Proc, Slave, State, Line, Owner}
use Rattle.pm_topofile.specs.Meaning.{most_bytes}
use Rattle.pm_topofile.specs.Reading.{item_of}

-- ---- the lines

-- a line's item before those of later lines. A line that is empty or a comment has none
abbrev pub item_before : Item → List Item → List Item
item_before Empty items = items
item_before item items = item ∷ items

-- the items of lines, one a line. None if the form of a line is wrong
abbrev pub items_in : List (List ℕ) → Option (List Item)
items_in [] = Some []
items_in (line ∷ lines) = option_and_then (λ item. option_map (item_before item) (items_in lines)) (item_of line)

-- ---- the entries

-- the number of the power node at a place, by which a line names it; each parent is the place of one
abbrev pub node_at : List PowerDef → ℕ → NodeId
node_at powers place = option_map_or (λ (p : PowerDef). p.node) (slice_get powers place) (record { 0 = 0 })

abbrev pub power_item : List PowerDef → PowerDef → Item
power_item powers p = Power (record {
  node = p.node;
  parent = option_map (node_at powers) p.parent;
  held = p.held;
  figure = p.figure;
  latency = p.latency;
})

abbrev pub proc_item : List PowerDef → ProcDef → Item
proc_item powers p =
    Proc (record { node = p.node; parent = node_at powers p.parent; figure = p.figure; latency = p.latency })

-- a slave, and then its states
abbrev pub slave_items : List PowerDef → SlaveDef → List Item
slave_items powers s = Slave (record { node = s.node; parent = node_at powers s.parent }) ∷ map State s.states

-- the power nodes, the processors, the slaves and the reset lines, before these items
abbrev pub entry_items : Topology → List Item → List Item
entry_items t later =
    map (power_item t.powers) t.powers
    ++ (map (proc_item t.powers) t.procs
    ++ (flat_map (slave_items t.powers) t.slaves
    ++ (map Line t.lines ++ later)))

-- some of the processors of a master
abbrev pub owner_item : NodeId → List NodeId → Item
owner_item node procs = Owner node (record { items = map (λ (n : NodeId). n.0) procs })

-- the processors of the masters, one master after another: those of each stand in one line or several, in order
abbrev pub AreOwners : List Item → List MasterDef → Type 0
AreOwners items [] = items ≡ []
AreOwners items (m ∷ masters) =
    (parts : List (List NodeId)) × (later : List Item) × (0 < length parts)
    × (items ≡ map (owner_item m.node) parts ++ later)
    × (flat_map (λ (part : List NodeId). part) parts ≡ m.procs)
    × AreOwners later masters

-- the items are those of the topology: its entries, and then its masters
pub record AreItemsOf (items : List Item) (t : Topology) : Type 0 where
  pub owners : List Item
  pub are : items ≡ entry_items t owners
  pub owned : AreOwners owners t.masters

-- the text means this topology, which keeps the rules: its lines have items, and these are the topology's
pub record Means (text : List ℕ) (t : Topology) : Type 0 where
  pub short : length text ≤ most_bytes
  pub items : List Item
  pub lines : items_in (lines_of text) ≡ Some items
  pub listed : AreItemsOf items t
  pub formed : IsWellFormed t
