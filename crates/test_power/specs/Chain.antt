-- A chip of four power nodes, each below the one before it, with a processor at each of them.
use Rattle.std.specs.Prelude.{Bool, Some, None, List, [], ◌∷◌, false}
use Rattle.pm_base.specs.Names.{numbered_node as node}
use Rattle.pm_topology.specs.declared.topology.ProcDef.{ProcDef}
use Rattle.pm_topology.specs.declared.topology.PowerDef.{PowerDef}
use Rattle.pm_chip.specs.Chip.{power, proc}
use Rattle.pm_power.specs.declared.child.Child.{Child}
use Rattle.pm_power.specs.Needs.{child}

abbrev pub powers : List PowerDef
powers =
    power 10 None false 1 10
    ∷ power 11 (Some 0) false 1 10
    ∷ power 12 (Some 1) false 1 10
    ∷ power 13 (Some 2) false 1 10
    ∷ []

abbrev pub procs : List ProcDef
procs = proc 1 0 2 20 ∷ proc 2 1 2 20 ∷ proc 3 2 2 20 ∷ proc 4 3 2 20 ∷ []

-- the processors from the top down, with these needs
abbrev pub children : Bool → Bool → Bool → Bool → List Child
children first second third fourth =
    child (node 1) 0 first ∷ child (node 2) 1 second ∷ child (node 3) 2 third ∷ child (node 4) 3 fourth ∷ []
