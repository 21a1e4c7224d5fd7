-- What a step of the book does to the clock tree: enables are dropped, and the roots follow their slaves.
use Rattle.std.specs.Prelude.{◌≡◌, ◌==◌, Bool, false, ◌&&◌, if◌then◌else◌, List, ◌∷◌, length, map, replicate, Option, Some, None}
use Rattle.std.specs.List.{list_any, All}
use Rattle.pm_base.specs.declared.names.NodeId.{NodeId}
use Rattle.pm_base.specs.declared.names.Unit.{Unit}
use Rattle.pm_base.specs.declared.names.Unit.TheVariants.{Node, Line}
use Rattle.pm_clock_tree.specs.declared.table.ClockDef.{ClockDef}
use Rattle.pm_clock_tree.specs.declared.calls.ClockCall.{ClockCall}
use Rattle.pm_clock_tree.specs.Served.{served}
use Rattle.pm_clock_tree.specs.Table.{clocks, roots}
use Rattle.pm_clock_tree.specs.Tree.{Holder, Seen, Tree, roots_seen}

-- ---- enables are dropped

-- of the enables of a master those of clocks whose slaves it may use by the object in force
abbrev pub permitted : Seen → NodeId → List ClockDef → List Bool → List Bool
permitted seen master (def ∷ defs) (on ∷ enables) =
    (on && seen.may_use master def.node) ∷ permitted seen master defs enables
permitted seen master defs enables = enables

abbrev pub reviewed : Seen → Holder → Holder
reviewed seen holder = record holder { enables = permitted seen holder.node clocks holder.enables }

abbrev pub emptied : Holder → Holder
emptied holder = record holder { enables = replicate (length holder.enables) false }

-- a master that is off enables nothing any more, and any other only what it may
abbrev pub settled_holder : Seen → Holder → Holder
settled_holder seen holder = if seen.is_off holder.node then emptied holder else reviewed seen holder

abbrev pub settled : Seen → Tree → Tree
settled seen tree = record tree { holders = map (settled_holder seen) tree.holders }

-- ---- the roots follow their slaves

abbrev pub rooted : Seen → Tree → Tree
rooted seen tree = record tree { roots = roots_seen seen }

-- the tree after a step of a book that is seen so
abbrev pub followed : Seen → Tree → Tree
followed seen tree = rooted seen (settled seen tree)

-- the tree after the call that a master made on a clock, if one was made
abbrev pub served_by : Seen → Option (NodeId × ClockCall) → Tree → Tree
served_by seen None tree = tree
served_by seen (Some made) tree = served seen made.0 made.1 tree

-- the tree after a core step, in which this call was made on a clock or none. The book refuses such a message, so that
-- nothing moves in that step, and the call finds the roots as they are after it too
abbrev pub after_step : Seen → Option (NodeId × ClockCall) → Tree → Tree
after_step seen made tree = followed seen (served_by seen made tree)

-- ---- what a step is known to leave

-- one of these units is the slave of a root
abbrev pub is_source : Unit → Bool
is_source (Node node) = list_any (λ (root : NodeId). root.0 == node.0) roots
is_source (Line line) = false

abbrev pub has_source : List Unit → Bool
has_source units = list_any is_source units

-- unless the slave of a root moved, the roots are as they are seen
abbrev pub RootsStand : Seen → List Unit → Tree → Type 0
RootsStand seen moved tree = has_source moved ≡ false → tree.roots ≡ roots_seen seen

-- each master may use the slaves of the clocks that it enables
abbrev pub AreHoldersPermitted : Seen → List Holder → Type 0
AreHoldersPermitted seen holders = All (λ holder. reviewed seen holder ≡ holder) holders

abbrev pub ArePermitted : Seen → Tree → Type 0
ArePermitted seen tree = AreHoldersPermitted seen tree.holders

-- ---- trees that stand over a book

-- a tree stands over a book that is seen so: nothing is left to drop, and the roots are as they are seen
abbrev pub Stands : Seen → Tree → Type 0
Stands seen tree = followed seen tree ≡ tree

-- two books are seen alike by what the object in force permits
abbrev pub PermitAlike : Seen → Seen → Type 0
PermitAlike a b = (master slave : NodeId) → a.may_use master slave ≡ b.may_use master slave
