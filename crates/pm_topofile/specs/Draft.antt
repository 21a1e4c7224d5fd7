-- A topology while its text is read.
use Rattle.pm_topology.specs.declared.topology.Topology.{Topology}
use Rattle.pm_topofile.specs.declared.draft.Draft.{Draft}

-- what the lines say that a draft was made of
abbrev pub so_far : Draft → Topology
so_far draft = record { slaves = draft.slaves.items; procs = draft.procs; powers = draft.powers; lines = draft.lines; masters = draft.masters.items }
