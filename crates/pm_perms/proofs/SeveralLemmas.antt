-- One of several objects gives something: as a test of a list.
use Rattle.std.proofs.Common.{◌≡◌, ◌||◌, Bool, true, false, List, [], ◌∷◌, refl, ap}
use Rattle.std.specs.List.{list_any}
use Rattle.pm_base.specs.declared.names.NodeId.{NodeId}
use Rattle.pm_object.specs.declared.object.Object.{Object}
use Rattle.pm_topology.specs.declared.topology.Topology.{Topology}
use Rattle.pm_perms.specs.declared.several.Act.{Act}
use Rattle.pm_perms.specs.declared.several.Act.TheVariants.{Use, Suspend, Wake, Force, Reset, Shut, Configure}
use Rattle.pm_perms.specs.Permits.{may_configure, may_force, may_reset, may_shut, may_suspend, may_use, may_wake}
use Rattle.pm_perms.specs.Several.{may, some_gives, some_may}

or_none : (b : Bool) → (b || false) ≡ b
or_none true = refl
or_none false = refl

any_gives : (gives : Object → Bool) (objects : List Object) → list_any gives objects ≡ some_gives gives objects
any_gives gives [] = refl
any_gives gives (object ∷ []) = or_none (gives object)
any_gives gives (object ∷ other ∷ objects) = ap (λ b. gives object || b) (any_gives gives (other ∷ objects))

-- the same for each kind of act
pub any_may : (objects : List Object) (t : Topology) (master : NodeId) (act : Act)
    → list_any (λ (object : Object). may object t master act) objects ≡ some_may objects t master act
any_may objects t master (Use slave) = any_gives (λ object. may_use object t master slave) objects
any_may objects t master (Suspend other) = any_gives (λ object. may_suspend object t master other) objects
any_may objects t master (Wake other) = any_gives (λ object. may_wake object t master other) objects
any_may objects t master (Force node) = any_gives (λ object. may_force object t master node) objects
any_may objects t master (Reset line) = any_gives (λ object. may_reset object t master line) objects
any_may objects t master (Shut subtype) = any_gives (λ object. may_shut object t master subtype) objects
any_may objects t master Configure = any_gives (λ object. may_configure object t master) objects
