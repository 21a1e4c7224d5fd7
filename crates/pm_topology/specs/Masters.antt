-- The masters of a table: their processors, and the numbers and the processors that they may have.
use Rattle.std.specs.Prelude.{ℕ, Bool, false, not, ◌||◌, ◌==◌, List, [], ◌∷◌, find}
use Rattle.std.specs.List.{list_any}
use Rattle.std.specs.Option.{option_map_or}
use Rattle.pm_base.specs.Masters.{is_half_of, is_master_number, splits_lockstep}
use Rattle.pm_base.specs.declared.names.NodeId.{NodeId}
use Rattle.pm_topology.specs.declared.topology.MasterDef.{MasterDef}
use Rattle.pm_topology.specs.declared.topology.Topology.{Topology}

-- the processors which the table gives the master with a number, the first one first
abbrev pub procs_of : Topology → ℕ → List NodeId
procs_of t master =
    option_map_or (λ (def : MasterDef). def.procs) (find (λ (def : MasterDef). def.node.0 == master) t.masters) []

-- whether a master may have a processor, by their numbers: a processor with the number of a master is that master's
-- alone, but 7 and 8 are of 6 too
abbrev pub may_have : ℕ → ℕ → Bool
may_have master proc = not (is_master_number proc) || ((proc == master) || is_half_of proc master)

-- whether a master names a processor twice
abbrev pub has_twice : List NodeId → Bool
has_twice [] = false
has_twice (p ∷ ps) = list_any (λ q. q.0 == p.0) ps || has_twice ps

-- whether two masters have a processor in common
abbrev pub share : MasterDef → MasterDef → Bool
share m n = list_any (λ p. list_any (λ q. q.0 == p.0) n.procs) m.procs

-- whether two masters may have one: the RPU in lock-step with each of its halves
abbrev pub may_share : MasterDef → MasterDef → Bool
may_share m n = splits_lockstep m.node.0 n.node.0
