-- The kind that is kept is that of the node.
use Rattle.std.proofs.Common.{◌≡◌, Some, ap, ◌∙◌, List, slice_get, sym}
use Rattle.pm_topology.specs.declared.places.Kind.{Kind}
use Rattle.pm_topology.specs.declared.topology.Topology.{Topology}
use Rattle.pm_topology.specs.Places.{kind_of}
use Rattle.pm_state.proofs.chip.Chip.kind.Goals as goal

pub returns-in-Some : goal.returns-in-Some
returns-in-Some c =
    let found = ap (λ (kinds : List Kind). slice_get kinds c.args.node.0) (sym c.as_slice.ensures) ∙ (sym c.kept_kind.ensures ∙ c.in-Some.is) in
    c.self.invariant.0 c.args.node.0 c.in-Some.kind found ∙ ap (λ (t : Topology). kind_of t c.args.node) c.self.view_is
