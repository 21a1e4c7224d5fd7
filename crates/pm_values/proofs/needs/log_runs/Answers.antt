use Rattle.std.proofs.Common.{◌≡◌, ◌<◌, length, ◌∙◌, ap, inl, inr, arith}
use Rattle.std.proofs.lemmas.List.{length-set}
use Rattle.std.proofs.lemmas.Option.{slice_get_cases}
use Rattle.pm_procs.specs.Procs.{mode_at}
use Rattle.pm_topology.specs.declared.topology.Topology.{Topology}
use Rattle.pm_procs.specs.Modes.{is_awake}
use Rattle.pm_state.specs.Values.{run_of, runs}
use Rattle.pm_state.proofs.PlacedLemmas.{placed_step}
use Rattle.pm_values.proofs.needs.log_runs.Goals as goal

pub loop-p-preserved : goal.loop-p-preserved
loop-p-preserved c =
    let procs = c.args.tables.now.fixed.topology.procs in
    let core = c.args.tables.now.now.core in
    let p = c.loop-p.p in
    let run : c.is_awake.result ≡ runs core p =
    c.is_awake.ensures ∙ ap is_awake (c.mode.ensures ∙ ap (mode_at p) c.procs.ensures.procs)
    in
    let same : length c.topology-t.result.now.procs ≡ length procs = ap (λ (t : Topology). length t.procs) c.topology-t.ensures.topology in
    let within : p < length procs = omega (arith, same, c.len-p-end.ensures, c.loop-p-test.true) in
    record {
      places = length-set c.loop-p.runs p c.is_awake.result ∙ c.loop-p.invariant.places;
      runs = elim ((slice_get_cases procs p).1) [
        | inl here ↦ placed_step (run_of core) procs c.loop-p.runs p here.0 c.is_awake.result _ here.2 (omega arith) run c.loop-p.invariant.runs
        | inr past ↦ absurd (omega (arith, past.0))
      ];
    }
