-- The master to which a processor belongs.
use Rattle.std.specs.Prelude.{ℕ, Bool, ◌&&◌, ◌==◌, position, Option}
use Rattle.std.specs.List.{list_any}
use Rattle.pm_base.specs.declared.names.NodeId.{NodeId}
use Rattle.pm_object.specs.declared.object.Object.{Object}
use Rattle.pm_object.specs.declared.object.MasterRec.{MasterRec}
use Rattle.pm_topology.specs.declared.topology.MasterDef.{MasterDef}
use Rattle.pm_topology.specs.declared.topology.Topology.{Topology}

-- the chip's entry of the master with a number has a processor
abbrev pub has_processor : Topology → ℕ → NodeId → Bool
has_processor t master proc =
    list_any (λ (d : MasterDef). (d.node.0 == master) && list_any (λ (p : NodeId). p.0 == proc.0) d.procs) t.masters

-- the place of the master of the object that a processor belongs to: the first that has it
abbrev pub owner : Object → Topology → NodeId → Option ℕ
owner object t proc = position (λ (m : MasterRec). has_processor t m.node proc) object.masters
