-- What a master is permitted by at least one of several objects that have the same masters. Each object judges by its own
-- records, so what is made of two permissions may take one of them from one object and the other from another.
use Rattle.std.specs.Prelude.{ℕ, Bool, false, ◌||◌, List, [], ◌∷◌}
use Rattle.pm_base.specs.declared.names.NodeId.{NodeId}
use Rattle.pm_base.specs.declared.names.LineId.{LineId}
use Rattle.pm_object.specs.declared.object.MasterRec.{MasterRec}
use Rattle.pm_object.specs.declared.object.Object.{Object}
use Rattle.pm_topology.specs.declared.topology.Topology.{Topology}
use Rattle.pm_perms.specs.declared.several.Act.{Act}
use Rattle.pm_perms.specs.declared.several.Act.TheVariants.{Use, Suspend, Wake, Force, Reset, Shut, Configure}
use Rattle.pm_perms.specs.Permits.{may_configure, may_force, may_reset, may_shut, may_suspend, may_use, may_wake}

-- the masters of the objects: those of the first, since all have the same
abbrev pub masters_of : List Object → List MasterRec
masters_of [] = []
masters_of (object ∷ objects) = object.masters

-- at least one of the objects gives it. One alone decides by itself
abbrev pub some_gives : (Object → Bool) → List Object → Bool
some_gives gives [] = false
some_gives gives (object ∷ []) = gives object
some_gives gives (object ∷ other ∷ objects) = gives object || some_gives gives (other ∷ objects)

-- ---- each permission: at least one of the objects gives it

abbrev pub some_may_use : List Object → Topology → NodeId → NodeId → Bool
some_may_use objects t master slave = some_gives (λ object. may_use object t master slave) objects

abbrev pub some_may_suspend : List Object → Topology → NodeId → NodeId → Bool
some_may_suspend objects t master other = some_gives (λ object. may_suspend object t master other) objects

abbrev pub some_may_wake : List Object → Topology → NodeId → NodeId → Bool
some_may_wake objects t master other = some_gives (λ object. may_wake object t master other) objects

abbrev pub some_may_force : List Object → Topology → NodeId → NodeId → Bool
some_may_force objects t master node = some_gives (λ object. may_force object t master node) objects

abbrev pub some_may_reset : List Object → Topology → NodeId → LineId → Bool
some_may_reset objects t master line = some_gives (λ object. may_reset object t master line) objects

abbrev pub some_may_shut : List Object → Topology → NodeId → ℕ → Bool
some_may_shut objects t master subtype = some_gives (λ object. may_shut object t master subtype) objects

abbrev pub some_may_configure : List Object → Topology → NodeId → Bool
some_may_configure objects t master = some_gives (λ object. may_configure object t master) objects

-- ---- an act by its kind

-- a master may do this by an object
abbrev pub may : Object → Topology → NodeId → Act → Bool
may object t master (Use slave) = may_use object t master slave
may object t master (Suspend other) = may_suspend object t master other
may object t master (Wake other) = may_wake object t master other
may object t master (Force node) = may_force object t master node
may object t master (Reset line) = may_reset object t master line
may object t master (Shut subtype) = may_shut object t master subtype
may object t master Configure = may_configure object t master

-- by at least one of the objects
abbrev pub some_may : List Object → Topology → NodeId → Act → Bool
some_may objects t master (Use slave) = some_may_use objects t master slave
some_may objects t master (Suspend other) = some_may_suspend objects t master other
some_may objects t master (Wake other) = some_may_wake objects t master other
some_may objects t master (Force node) = some_may_force objects t master node
some_may objects t master (Reset line) = some_may_reset objects t master line
some_may objects t master (Shut subtype) = some_may_shut objects t master subtype
some_may objects t master Configure = some_may_configure objects t master
