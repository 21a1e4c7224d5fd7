use Rattle.std.proofs.Common.{◌≡◌, ◌<◌, length, ◌∙◌, ap, inl, inr, arith}
use Rattle.std.proofs.lemmas.List.{length-set}
use Rattle.std.proofs.lemmas.Option.{slice_get_cases}
use Rattle.pm_topology.specs.declared.topology.Topology.{Topology}
use Rattle.pm_values.specs.Along.{down_in}
use Rattle.pm_state.proofs.PlacedLemmas.{placed_step}
use Rattle.pm_values.proofs.along.log_downs.Goals as goal

pub loop-p-preserved : goal.loop-p-preserved
loop-p-preserved c =
    let book = c.args.tables.now in
    let procs = book.fixed.topology.procs in
    let p = c.loop-p.p in
    let same : length c.topology-t.result.now.procs ≡ length procs = ap (λ (t : Topology). length t.procs) c.topology-t.ensures.topology in
    let within : p < length procs = omega (arith, same, c.len-p-end.ensures, c.loop-p-test.true) in
    record {
      places = length-set c.loop-p.downs p c.is_down.result ∙ c.loop-p.invariant.places;
      downs = elim ((slice_get_cases procs p).1) [
        | inl here ↦ placed_step (down_in book) procs c.loop-p.downs p here.0 c.is_down.result _ here.2 (omega arith) c.is_down.ensures c.loop-p.invariant.downs
        | inr past ↦ absurd (omega (arith, past.0))
      ];
    }
