use Rattle.std.proofs.Common.{◌≡◌, ℕ, get_or, slice_get, Some, sym, ◌∙◌}
use Rattle.std.proofs.lemmas.Option.{slice_get-get_or}
use Rattle.pm_values.specs.Caches.{use_of}
use Rattle.pm_values.proofs.RenewedLaw.{renewed_none, renewed_place}
use Rattle.pm_values.proofs.bringing.log_uses_on.Goals as goal

pub loop-s-init : goal.loop-s-init
loop-s-init c = record {
  places = c.requires;
  used = sym (renewed_none (use_of c.args.tables.now.now.core) 0 c.args.tables.now.fixed.topology.slaves c.args.used.now c.requires);
}

pub loop-s-preserved : goal.loop-s-preserved
loop-s-preserved c =
    let places = c.args.places.now in
    let k = c.loop-s.s-index in
    let p : ℕ = get_or places k 0 in
    let at : slice_get places k ≡ Some p = slice_get-get_or places k 0 c.loop-s-test.true in
    record {
      places = c.log_use_if.auto.used ∙ c.loop-s.invariant.places;
      used = renewed_place (use_of c.args.tables.now.now.core) places k p c.args.tables.now.fixed.topology.slaves c.args.used.now c.loop-s.used c.log_use_if.new.used
          at c.loop-s.invariant.used c.log_use_if.ensures;
    }
