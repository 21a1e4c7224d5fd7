-- What a call takes down: processors, and the rows on slaves.
use Rattle.std.specs.Prelude.{ℕ, ◌+◌, ◌<◌, ◌==◌, ⊤, Bool, true, false, if◌then◌else◌, List, [], ◌∷◌, ◌++◌, Option, Some, None, length}
use Rattle.pm_base.specs.declared.names.NodeId.{NodeId}
use Rattle.pm_base.specs.declared.names.Mode.TheVariants.{Off}
use Rattle.pm_topology.specs.declared.topology.ProcDef.{ProcDef}
use Rattle.pm_topology.specs.declared.topology.SlaveDef.{SlaveDef}
use Rattle.pm_topology.specs.declared.topology.Topology.{Topology}
use Rattle.pm_topology.specs.declared.places.Kind.{Kind}
use Rattle.pm_topology.specs.declared.places.Kind.TheVariants.{Proc, Power}
use Rattle.pm_topology.specs.Places.{is_below, kind_of}
use Rattle.pm_state.specs.declared.scope.Scope.{Scope}
use Rattle.pm_state.specs.declared.scope.Scope.TheVariants.{Under, Own, All}
use Rattle.pm_state.specs.Members.{owner_at, owns}
use Rattle.pm_state.specs.Prims.{Prim, Put_proc, Clear}
use Rattle.pm_state.specs.State.{Fixed}

-- the processor at place p, which has this number, is the node of this kind or has it above it
abbrev pub is_under : Topology → Kind → ℕ → NodeId → Bool
is_under t (Proc q) p node = p == q
is_under t (Power w) p node = is_below t w node
is_under t _ p node = false

-- the slave of this number has the node of this kind above it
abbrev pub is_slave_under : Topology → Kind → NodeId → Bool
is_slave_under t (Power w) node = is_below t w node
is_slave_under t _ node = false

-- a kind that is a power node or a processor is one of the chip's
abbrev pub IsPlaced : Topology → Kind → Type 0
IsPlaced t (Power w) = w < length t.powers
IsPlaced t (Proc p) = p < length t.procs
IsPlaced t _ = ⊤

-- the processor at place p, which has this number, is among those that go off
abbrev pub takes : Fixed → Scope → ℕ → NodeId → Bool
takes fixed (Under forced) p node = is_under fixed.topology (kind_of fixed.topology forced) p node
takes fixed (Own m) p node = owns fixed.object fixed.topology m p
takes fixed All p node = true

-- a processor goes off, where a configured master has it
abbrev pub off_by : Option ℕ → ℕ → List Prim
off_by None p = []
off_by (Some m) p = Put_proc m p Off 0 ∷ []

abbrev pub off : Fixed → ℕ → List Prim
off fixed p = off_by (owner_at fixed.object fixed.topology p) p

abbrev pub off_at : Fixed → Scope → ℕ → NodeId → List Prim
off_at fixed scope p node = if takes fixed scope p node then off fixed p else []

-- the processors of the master at a place, or those of all masters
abbrev pub of_masters : Option ℕ → Scope
of_masters (Some m) = Own m
of_masters None = All

-- a processor goes off, if it is among them
abbrev pub off_of : Fixed → Option ℕ → ℕ → List Prim
off_of fixed (Some m) p = if owns fixed.object fixed.topology m p then off fixed p else []
off_of fixed None p = off fixed p

-- of these processors, the first of which has place p, those that go off
abbrev pub offs_from : Fixed → Scope → ℕ → List ProcDef → List Prim
offs_from fixed scope p [] = []
offs_from fixed scope p (proc ∷ procs) = off_at fixed scope p proc.node ++ offs_from fixed scope (p + 1) procs

-- the processors that a call takes off
abbrev pub offs : Fixed → Scope → List Prim
offs fixed scope = offs_from fixed scope 0 fixed.topology.procs

-- the rows on the slave at place s are cleared
abbrev pub clear : ℕ → List Prim
clear s = Clear s ∷ []

-- they are, if the slave has the forced node above it
abbrev pub clear_at : Fixed → (forced : NodeId) → ℕ → NodeId → List Prim
clear_at fixed forced s node =
    if is_slave_under fixed.topology (kind_of fixed.topology forced) node then clear s else []

-- of these slaves, the first of which has place s, those whose rows are cleared
abbrev pub clears_from : Fixed → (forced : NodeId) → ℕ → List SlaveDef → List Prim
clears_from fixed forced s [] = []
clears_from fixed forced s (slave ∷ slaves) =
    clear_at fixed forced s slave.node ++ clears_from fixed forced (s + 1) slaves

-- the rows on the slaves below a forced node are cleared
abbrev pub clears : Fixed → (forced : NodeId) → List Prim
clears fixed forced = clears_from fixed forced 0 fixed.topology.slaves
