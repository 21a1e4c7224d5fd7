-- The master to which a processor belongs is one that has it.
use Rattle.std.proofs.Common.{◌≡◌, ℕ, Bool, true, false, Some, ap, ◌∙◌, List, ◌∷◌}
use Rattle.std.specs.Option.{option_map_or}
use Rattle.pm_laws.proofs.Common.{MasterRec, NodeId, Object, Topology}
use Rattle.pm_base.proofs.Searches.{position-first}
use Rattle.pm_perms.specs.Owner.{has_processor, owner}
use Rattle.pm_reach.specs.Leads.{has_processor_at}

pub owner_owns : (object : Object) (others : List Object) (t : Topology) (node : NodeId) (k : ℕ) → owner object t node ≡ Some k → has_processor_at (object ∷ others) t k node ≡ true
owner_owns object others t node k is =
    let has : MasterRec → Bool = λ m. has_processor t m.node node in
    let first = position-first has object.masters k is in
    ap (λ o. option_map_or has o false) first.here ∙ first.passes
