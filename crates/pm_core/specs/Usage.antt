-- Who uses a slave, by the numbers of nodes.
use Rattle.std.specs.Prelude.{ℕ, Option, Some, None}
use Rattle.pm_base.specs.declared.names.NodeId.{NodeId}
use Rattle.pm_rows.specs.Rows.{usage_of}
use Rattle.pm_state.specs.State.{State}
use Rattle.pm_state.specs.Values.{master_place, slave_place}

abbrev pub usage_at : Option ℕ → Option ℕ → State → Option ℕ
usage_at (Some m) (Some s) book = Some (usage_of m s book.now.core.rows)
usage_at (Some m) None book = None
usage_at None s book = None

-- who uses a slave, to a configured master: 0 nobody, 1 that master alone, 2 others alone, 3 both
abbrev pub usage : NodeId → NodeId → State → Option ℕ
usage master slave book = usage_at (master_place master book) (slave_place slave book) book
