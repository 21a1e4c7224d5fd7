use Rattle.std.proofs.Common.{◌≡◌, ◌<◌, length, ◌∙◌, ap, inl, inr, arith}
use Rattle.std.proofs.lemmas.List.{length-set}
use Rattle.std.proofs.lemmas.Option.{slice_get_cases}
use Rattle.pm_topology.specs.declared.topology.Topology.{Topology}
use Rattle.pm_values.specs.Caches.{use_of}
use Rattle.pm_values.specs.Notifications.{is_used}
use Rattle.pm_state.proofs.PlacedLemmas.{placed_step}
use Rattle.pm_values.proofs.notifications.log_uses.Goals as goal

pub loop-s-preserved : goal.loop-s-preserved
loop-s-preserved c =
    let slaves = c.args.tables.now.fixed.topology.slaves in
    let core = c.args.tables.now.now.core in
    let s = c.loop-s.s in
    let now : c.is_used.result ≡ is_used s core.rows = c.is_used.ensures ∙ ap (is_used s) c.rows.ensures in
    let same : length c.topology-t.result.now.slaves ≡ length slaves = ap (λ (t : Topology). length t.slaves) c.topology-t.ensures.topology in
    let within : s < length slaves = omega (arith, same, c.len-s-end.ensures, c.loop-s-test.true) in
    record {
      places = length-set c.loop-s.used s c.is_used.result ∙ c.loop-s.invariant.places;
      used = elim ((slice_get_cases slaves s).1) [
        | inl here ↦ placed_step (use_of core) slaves c.loop-s.used s here.0 c.is_used.result _ here.2 (omega arith) now c.loop-s.invariant.used
        | inr past ↦ absurd (omega (arith, past.0))
      ];
    }
