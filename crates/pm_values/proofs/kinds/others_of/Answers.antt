use Rattle.std.proofs.Common.{◌≡◌, get_or, slice_get, Some}
use Rattle.std.proofs.lemmas.Option.{slice_get-get_or}
use Rattle.pm_topology.specs.declared.places.Kind.TheVariants.{Proc}
use Rattle.pm_values.specs.declared.caches.UnitKind.{UnitKind}
use Rattle.pm_values.specs.declared.caches.UnitKind.TheVariants.{Entry}
use Rattle.pm_values.proofs.OthersLaw.{listed_next, listed_start}
use Rattle.pm_values.proofs.kinds.others_of.Goals as goal

pub loop-k-init : goal.loop-k-init
loop-k-init c = listed_start c.args.kinds.now _

pub loop-k-preserved : goal.loop-k-preserved
loop-k-preserved c =
    let kinds = c.args.kinds.now in
    let k = c.loop-k.k in
    let kind : UnitKind = get_or kinds k (Entry (Proc 0)) in
    let at : slice_get kinds k ≡ Some kind = slice_get-get_or kinds k (Entry (Proc 0)) c.loop-k-test.true in
    listed_next kinds k kind c.is_slave_or_line.result c.loop-k.others.items _ c.is_slave_or_line.ensures at c.in_ok-list_unless.ensures c.loop-k.invariant
