-- Which master leads to which: what one may do to another, or to what the other needs or uses, where at least one of
-- several objects with the same masters permits it.
use Rattle.std.specs.Prelude.{ℕ, Bool, false, ◌&&◌, ◌||◌, find, Option, List, [], ◌∷◌, slice_get}
use Rattle.std.specs.List.{list_any, enumerate_from}
use Rattle.std.specs.Option.{option_map_or}
use Rattle.pm_base.specs.declared.names.NodeId.{NodeId}
use Rattle.pm_object.specs.declared.object.Object.{Object}
use Rattle.pm_object.specs.declared.object.MasterRec.{MasterRec}
use Rattle.pm_topology.specs.declared.topology.SlaveDef.{SlaveDef}
use Rattle.pm_topology.specs.declared.topology.ProcDef.{ProcDef}
use Rattle.pm_topology.specs.declared.topology.PowerDef.{PowerDef}
use Rattle.pm_topology.specs.declared.topology.LineDef.{LineDef}
use Rattle.pm_topology.specs.declared.topology.Topology.{Topology}
use Rattle.pm_topology.specs.Places.{is_below}
use Rattle.pm_perms.specs.Owner.{has_processor}
use Rattle.pm_perms.specs.Several.{masters_of, some_may_use, some_may_suspend, some_may_wake, some_may_force, some_may_reset, some_may_shut, some_may_configure}
use Rattle.pm_reach.specs.declared.members.Why.{Why}
use Rattle.pm_reach.specs.declared.members.Why.TheVariants.{Myself, Suspend, Wake, Force, Reset, Shutdown, Config, Uses, Above}

-- ---- masters by their places in the objects

-- the number of the master at a place, and 0 where there is none
abbrev pub node_at : List Object → ℕ → NodeId
node_at objects place =
    record { 0 = option_map_or (λ (m : MasterRec). m.node) (slice_get (masters_of objects) place) 0 }

-- the master at a place has a processor in the chip's table. More than one may have it
abbrev pub has_processor_at : List Object → Topology → ℕ → NodeId → Bool
has_processor_at objects t place proc =
    option_map_or (λ (m : MasterRec). has_processor t m.node proc) (slice_get (masters_of objects) place) false

-- ---- power nodes above

-- the power node at w is above a node, at any height, and a master may force it
abbrev pub forces_at : List Object → Topology → NodeId → NodeId → ℕ → PowerDef → Bool
forces_at objects t master node w power = is_below t w node && some_may_force objects t master power.node

-- a master may force a power node above a node
abbrev pub forces_above : List Object → Topology → NodeId → NodeId → Bool
forces_above objects t master node =
    list_any (λ (power : ℕ × PowerDef). forces_at objects t master node power.0 power.1) (enumerate_from 0 t.powers)

-- a master may force a processor, or a power node above it
abbrev pub forces_proc : List Object → Topology → NodeId → NodeId → Bool
forces_proc objects t master proc = some_may_force objects t master proc || forces_above objects t master proc

-- ---- one master leads to another

-- a master may force a processor of the one at place b, or a power node above one
abbrev pub forces_a_proc : List Object → Topology → NodeId → ℕ → Bool
forces_a_proc objects t master b =
    list_any (λ (p : ProcDef). has_processor_at objects t b p.node && forces_proc objects t master p.node) t.procs

-- a master may force a power node above a slave that another may use
abbrev pub forces_a_slave : List Object → Topology → NodeId → NodeId → Bool
forces_a_slave objects t master user =
    list_any (λ (s : SlaveDef). some_may_use objects t user s.node && forces_above objects t master s.node) t.slaves

-- the target of a line is a processor of the master at place b
abbrev pub targets : List Object → Topology → LineDef → ℕ → Bool
targets objects t l b = option_map_or (has_processor_at objects t b) l.target false

-- a master may reset a line whose target is a processor of the one at place b
abbrev pub resets_a_proc : List Object → Topology → NodeId → ℕ → Bool
resets_a_proc objects t master b =
    list_any (λ (l : LineDef). targets objects t l b && some_may_reset objects t master l.line) t.lines

-- the master at place a leads to the one at b for a reason: what a may do to b, or to all
abbrev pub leads_for : List Object → Topology → ℕ → ℕ → Why → Bool
leads_for objects t a b Suspend = some_may_suspend objects t (node_at objects a) (node_at objects b)
leads_for objects t a b Wake = some_may_wake objects t (node_at objects a) (node_at objects b)
leads_for objects t a b Force =
    forces_a_proc objects t (node_at objects a) b || forces_a_slave objects t (node_at objects a) (node_at objects b)
leads_for objects t a b Reset = resets_a_proc objects t (node_at objects a) b
leads_for objects t a b Shutdown =
    some_may_shut objects t (node_at objects a) 1 || some_may_shut objects t (node_at objects a) 2
leads_for objects t a b Config = some_may_configure objects t (node_at objects a)
leads_for objects t a b Myself = false
leads_for objects t a b Uses = false
leads_for objects t a b Above = false

-- the six reasons in their order
abbrev pub lead_reasons : List Why
lead_reasons = Suspend ∷ Wake ∷ Force ∷ Reset ∷ Shutdown ∷ Config ∷ []

-- the first reason for which the master at place a leads to the one at b: none where it doesn't
abbrev pub lead : List Object → Topology → ℕ → ℕ → Option Why
lead objects t a b = find (leads_for objects t a b) lead_reasons
