use Rattle.std.proofs.Common.{◌≡◌, ℕ, ◌+◌, length, get_or, slice_get, Some, refl, ◌∙◌, sym, subst, List}
use Rattle.std.proofs.lemmas.Option.{slice_get-get_or}
use Rattle.pm_topology.specs.declared.places.Kind.TheVariants.{Proc}
use Rattle.pm_values.specs.declared.caches.UnitKind.{UnitKind}
use Rattle.pm_values.specs.declared.caches.UnitKind.TheVariants.{Entry}
use Rattle.pm_values.specs.Kinds.{AreHomes}
use Rattle.pm_values.proofs.KindsLaw.{homes_next, homes_start}
use Rattle.pm_values.proofs.kinds.set_homes.Goals as goal

pub loop-k-init : goal.loop-k-init
loop-k-init c = record { places = refl; homes = homes_start c.args.kinds.now c.args.homes.now }

pub loop-k-preserved : goal.loop-k-preserved
loop-k-preserved c =
    let kinds = c.args.kinds.now in
    let k = c.loop-k.k in
    let kind : UnitKind = get_or kinds k (Entry (Proc 0)) in
    let at : slice_get kinds k ≡ Some kind = slice_get-get_or kinds k (Entry (Proc 0)) c.loop-k-test.true in
    let P : List ℕ → Type 0 = λ homes. AreHomes kinds (k + 1) homes in
    record {
      places = c.set_home.auto.homes ∙ c.loop-k.invariant.places;
      homes = subst P (sym c.set_home.ensures) (homes_next (length c.args.homes.now) kinds k kind c.loop-k.homes c.requires c.loop-k.invariant.places at c.loop-k.invariant.homes);
    }
