-- What a book says of its masters, processors and rows by the numbers of nodes.
use Rattle.std.specs.Prelude.{ℕ, ◌==◌, List, slice_get, position, Option, Some, None, option_map}
use Rattle.std.specs.Option.{option_map_or, option_or}
use Rattle.pm_base.specs.declared.names.NodeId.{NodeId}
use Rattle.pm_base.specs.declared.names.Mode.{Mode}
use Rattle.pm_base.specs.declared.names.Mode.TheVariants.{Off}
use Rattle.pm_object.specs.declared.object.MasterRec.{MasterRec}
use Rattle.pm_rows.specs.Rows.{entry_at}
use Rattle.pm_topology.specs.declared.places.Kind.{Kind}
use Rattle.pm_topology.specs.declared.places.Kind.TheVariants.{Proc}
use Rattle.pm_topology.specs.Places.{kind_of}
use Rattle.pm_procs.specs.Procs.{mode_at}
use Rattle.pm_state.specs.Members.{mode_of_master}
use Rattle.pm_perms.specs.Owner.{owner}
use Rattle.pm_state.specs.Values.{slave_place, master_place}
use Rattle.pm_rows.specs.declared.row.Entry.{Entry}
use Rattle.pm_rows.specs.declared.row.Row.{Row}
use Rattle.pm_state.specs.State.{Fixed, State}

-- the node of the master at a place, and 0 past the last one
abbrev pub master_node : List MasterRec → ℕ → NodeId
master_node masters place =
    option_map_or (λ (master : MasterRec). record { 0 = master.node }) (slice_get masters place) (record { 0 = 0 })

-- the master that a node names: the configured master of that number, and else the one that has that processor
abbrev pub named_master : Fixed → NodeId → Option ℕ
named_master fixed node = option_or
    (position (λ (master : MasterRec). master.node == node.0) fixed.object.masters)
    (owner fixed.object fixed.topology node)

abbrev pub row_at : Option ℕ → Option ℕ → State → Option Row
row_at (Some m) (Some s) book = option_map (λ (entry : Entry). entry.row) (entry_at m s book.now.core.rows)
row_at (Some m) None book = None
row_at None s book = None

-- the row of a configured master on a slave, where the object permits the pair
abbrev pub row : NodeId → NodeId → State → Option Row
row master slave book = row_at (master_place master book) (slave_place slave book) book

-- the mode of a node of this kind
abbrev pub mode_by : Kind → State → Mode
mode_by (Proc p) book = mode_at p book.now.core.procs
mode_by _ book = Off

-- the mode of a processor, and Off for any other node
abbrev pub mode : NodeId → State → Mode
mode proc book = mode_by (kind_of book.fixed.topology proc) book

-- the mode of the master at a place, where there is one
abbrev pub master_mode_at : Option ℕ → State → Mode
master_mode_at (Some m) book = mode_of_master book.fixed book.now.core m
master_mode_at None book = Off

-- the mode of a configured master, and Off for any other node
abbrev pub master_mode : NodeId → State → Mode
master_mode master book = master_mode_at (master_place master book) book
