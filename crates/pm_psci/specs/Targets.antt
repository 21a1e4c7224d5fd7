-- The targets of the calls: the processors of master 1, by their places in the table.
use Rattle.std.specs.Prelude.{ℕ, ◌==◌, Bool, List, slice_get, Option}
use Rattle.std.specs.List.{list_any}
use Rattle.pm_base.specs.declared.names.NodeId.{NodeId}
use Rattle.pm_topology.specs.declared.topology.Topology.{Topology}
use Rattle.pm_topology.specs.Masters.{procs_of}

abbrev pub targets : Topology → List NodeId
targets t = procs_of t 1

-- the node is a processor of master 1
abbrev pub is_target : Topology → NodeId → Bool
is_target t node = list_any (λ target. target.0 == node.0) (targets t)

-- the target at a place, counted from 0
abbrev pub target_at : Topology → ℕ → Option NodeId
target_at t place = slice_get (targets t) place
