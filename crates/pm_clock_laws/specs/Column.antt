-- The part of a clock tree that belongs to one clock.
use Rattle.std.specs.Prelude.{ℕ, Bool, not, ◌&&◌, List, map, slice_get, Option}
use Rattle.pm_base.specs.declared.names.NodeId.{NodeId}
use Rattle.pm_clock_tree.specs.declared.table.ClockDef.{ClockDef}
use Rattle.pm_clock_tree.specs.declared.tree.Setting.{Setting}
use Rattle.pm_clock_tree.specs.Tree.{Holder, Seen, Tree}

-- of the clock at a place: which masters, in object order, enable it, and its divider and parent as they were set
pub record Column : Type 0 where
  pub enables : List (NodeId × Option Bool)
  pub setting : Option Setting

abbrev pub enable_at : ℕ → Holder → NodeId × Option Bool
enable_at k holder = (holder.node, slice_get holder.enables k)

abbrev pub column : ℕ → Tree → Column
column k tree = record { enables = map (enable_at k) tree.holders; setting = slice_get tree.settings k }

-- a master's enable of this clock survives a step after which the book is seen so: the master isn't off, and may use
-- the clock's slave
abbrev pub stays : Seen → ClockDef → NodeId → Bool
stays seen def master = not (seen.is_off master) && seen.may_use master def.node
