use Rattle.std.proofs.Common.{sym, ap, subst}
use Rattle.pm_topology.specs.declared.places.Kind.{Kind}
use Rattle.pm_topology.specs.declared.topology.Topology.{Topology}
use Rattle.pm_topology.specs.Places.{kind_of}
use Rattle.pm_state.specs.Scope.{IsPlaced}
use Rattle.pm_state.specs.State.{State}
use Rattle.pm_state.proofs.ScopeLemmas.{placed_kind}
use Rattle.pm_state.proofs.tables.Tables.forced_kind.Goals as goal

pub returns-clause-placed : goal.returns-clause-placed
returns-clause-placed c =
    let t = c.self.inside.topology in
    let P : Topology → Type 0 = λ t. IsPlaced t c.kind.result in
    let Q : Kind → Type 0 = λ kind. IsPlaced t kind in
    subst P (ap (λ (b : State). b.fixed.topology) c.self.view_is)
    (subst Q (sym c.kind.ensures) (placed_kind t c.args.forced (kind_of t c.args.forced) (c.kinds_are_exact.ensures.is t c.args.forced)))
