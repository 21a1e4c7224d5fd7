-- The table of a small chip, in which the number 8 is both a master's node and a power node's, which is not a part of
-- that master.
use Rattle.std.specs.Prelude.{true, false, None, List, [], ◌∷◌}
use Rattle.pm_base.specs.Names.{numbered_node as node}
use Rattle.pm_topology.specs.declared.topology.SlaveDef.{SlaveDef}
use Rattle.pm_topology.specs.declared.topology.ProcDef.{ProcDef}
use Rattle.pm_topology.specs.declared.topology.PowerDef.{PowerDef}
use Rattle.pm_topology.specs.declared.topology.MasterDef.{MasterDef}
use Rattle.pm_topology.specs.declared.topology.Topology.{Topology}
use Rattle.pm_chip.specs.Chip.{power, proc, master}
use Rattle.pm_chip.specs.Classes.{state}

-- a held power node, and one with nothing below it
abbrev pub powers : List PowerDef
powers = power 100 None true 20 3000 ∷ power 8 None false 10 300 ∷ []

abbrev pub procs : List ProcDef
procs = proc 2 0 300 400 ∷ proc 107 0 100 200 ∷ proc 108 0 100 200 ∷ []

-- a slave of one state
abbrev pub slaves : List SlaveDef
slaves = record { node = node 46; parent = 0; states = state 7 0 true 10 ∷ [] } ∷ []

abbrev pub masters : List MasterDef
masters =
    master 1 (node 2 ∷ [])
    ∷ master 6 (node 107 ∷ [])
    ∷ master 7 (node 107 ∷ [])
    ∷ master 8 (node 108 ∷ [])
    ∷ []

unfoldable pub small : Topology
small = record { slaves = slaves; procs = procs; powers = powers; lines = []; masters = masters }
