-- What starts with the load: the first processor of the first master.
use Rattle.std.specs.Prelude.{ℕ, length, slice_get, Option, Some, None}
use Rattle.pm_object.specs.declared.object.Object.{Object}
use Rattle.pm_topology.specs.declared.topology.Topology.{Topology}
use Rattle.pm_procs.specs.Procs.{members_at}
use Rattle.pm_state.specs.Members.{members_of}

-- the place of the processor that starts
abbrev pub boot_proc : Object → Topology → Option ℕ
boot_proc object t = slice_get (members_at 0 (members_of object t)) 0

-- the place of the master that is then active: the first one, or none of these where no processor starts
abbrev pub active_at_load : Option ℕ → ℕ → ℕ
active_at_load None masters = masters
active_at_load (Some p) masters = 0

-- the master that starts at the load of an object over a chip
abbrev pub boot_master : Object → Topology → ℕ
boot_master object t = active_at_load (boot_proc object t) (length object.masters)
