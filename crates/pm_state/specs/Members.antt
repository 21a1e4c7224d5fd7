-- The processors of the configured masters, and the modes of the masters by them.
use Rattle.std.specs.Prelude.{ℕ, ◌+◌, Bool, List, [], ◌∷◌, ◌++◌, slice_get, Option, Some, None, if◌then◌else◌, option_and_then}
use Rattle.pm_base.specs.Places.{is_place}
use Rattle.pm_base.specs.declared.names.Mode.{Mode}
use Rattle.pm_base.specs.declared.names.NodeId.{NodeId}
use Rattle.pm_object.specs.declared.object.MasterRec.{MasterRec}
use Rattle.pm_object.specs.declared.object.Object.{Object}
use Rattle.pm_topology.specs.declared.topology.ProcDef.{ProcDef}
use Rattle.pm_topology.specs.declared.topology.Topology.{Topology}
use Rattle.pm_topology.specs.Masters.{procs_of}
use Rattle.pm_topology.specs.Places.{proc_place}
use Rattle.pm_perms.specs.Owner.{owner}
use Rattle.pm_procs.specs.Procs.{master_mode_in, members_at}
use Rattle.pm_state.specs.State.{Fixed, CoreHalf}

-- the place of the configured master that has the processor at a place, by the object that was loaded
abbrev pub owner_at : Object → Topology → ℕ → Option ℕ
owner_at object t p = option_and_then (λ (proc : ProcDef). owner object t proc.node) (slice_get t.procs p)

-- the processor at place p is that of the master at place m
abbrev pub owns : Object → Topology → ℕ → ℕ → Bool
owns object t m p = is_place m (owner_at object t p)

-- this place, if a processor of the master at place m stands there
abbrev pub member_at : Object → Topology → ℕ → Option ℕ → List ℕ
member_at object t m None = []
member_at object t m (Some p) = if owns object t m p then p ∷ [] else []

-- of these processors, the places of those that are the master's
abbrev pub members_among : Object → Topology → ℕ → List NodeId → List ℕ
members_among object t m [] = []
members_among object t m (node ∷ nodes) =
    member_at object t m (proc_place t.procs node.0) ++ members_among object t m nodes

-- the places of each master's processors, the first one first; the first of these masters has place m
abbrev pub members_from : Object → Topology → ℕ → List MasterRec → List (List ℕ)
members_from object t m [] = []
members_from object t m (master ∷ masters) =
    members_among object t m (procs_of t master.node) ∷ members_from object t (m + 1) masters

-- the processors of each configured master
abbrev pub members_of : Object → Topology → List (List ℕ)
members_of object t = members_from object t 0 object.masters

-- the mode of the master at a place, by its processors
abbrev pub mode_of_master : Fixed → CoreHalf → ℕ → Mode
mode_of_master fixed core m = master_mode_in m (members_of fixed.object fixed.topology) core.procs

-- the place of the first processor of the master at place m
abbrev pub first_own : Fixed → ℕ → Option ℕ
first_own fixed m = slice_get (members_at m (members_of fixed.object fixed.topology)) 0
