-- The table of places has that of the node.
use Rattle.std.proofs.Common.{◌≡◌, Some, None, ap, ◌∙◌, subst, List}
use Rattle.std.specs.Prelude.{IfSome, slice_get, unwrap_or}
use Rattle.pm_base.specs.declared.names.Unit.{Unit}
use Rattle.pm_topology.specs.UnitMap.{place_of}
use Rattle.pm_topology.proofs.UnitMapLaw.{kept_for}
use Rattle.pm_topology.proofs.unit_map.UnitMap.kept_place.Goals as goal

pub returns-in-Node : goal.returns-in-Node
returns-in-Node g c =
    let found = c.at_or.ensures ∙ ap (λ items. unwrap_or (slice_get items c.in-Node.node.0) None) c.as_slice.ensures in
    subst (λ (es : List (Unit × g.row.T.Denot)). IfSome c.at_or.result (λ place. place_of es c.args.unit ≡ Some place)) c.self.view_is
    (kept_for c.self.inside.entries.entries c.self.inside.places c.args.unit c.in-Node.node c.at_or.result c.self.invariant.1 c.in-Node.is found)
