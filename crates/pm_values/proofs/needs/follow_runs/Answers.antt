use Rattle.std.proofs.Common.{◌≡◌, ◌+◌, ◌<◌, length, sym, subst, ◌∙◌, ap, inl, inr, arith}
use Rattle.std.specs.Prelude.{slice_set}
use Rattle.std.proofs.lemmas.List.{length-set}
use Rattle.std.proofs.lemmas.Option.{slice_get_cases}
use Rattle.pm_procs.specs.Procs.{mode_at}
use Rattle.pm_topology.specs.declared.topology.Topology.{Topology}
use Rattle.pm_procs.specs.Modes.{is_awake}
use Rattle.pm_state.specs.Values.{run_of, runs}
use Rattle.pm_state.proofs.PlacedLemmas.{placed_step}
use Rattle.pm_power.specs.Forest.{Needs}
use Rattle.pm_power.specs.Needs.{with_need_at}
use Rattle.pm_values.specs.Caches.{FollowRuns}
use Rattle.pm_values.proofs.FollowLaw.{more_runs, one_run}
use Rattle.pm_values.proofs.needs.follow_runs.Goals as goal

pub overflow_add-len : goal.overflow_add-len
overflow_add-len c =
    let procs : length c.topology-t.result.now.procs ≡ length c.args.tables.now.fixed.topology.procs =
    ap (λ (t : Topology). length t.procs) c.topology-t.ensures.topology
    in
    let slaves : length c.topology-t.result.now.slaves ≡ length c.args.tables.now.fixed.topology.slaves =
    ap (λ (t : Topology). length t.slaves) c.topology-t.ensures.topology
    in
    omega (arith, procs, slaves, c.len-p-end.ensures, c.len.ensures, c.loop-p-test.true, c.stays_well_formed.ensures.few_slaves, c.stays_well_formed.ensures.few_procs)

pub loop-p-preserved : goal.loop-p-preserved
loop-p-preserved c =
    let procs = c.args.tables.now.fixed.topology.procs in
    let slaves = c.args.tables.now.fixed.topology.slaves in
    let core = c.args.tables.now.now.core in
    let p = c.loop-p.p in
    let run : c.is_awake-run.result ≡ runs core p =
    c.is_awake-run.ensures ∙ ap is_awake (c.mode.ensures ∙ ap (mode_at p) c.procs.ensures.procs)
    in
    let same : length c.topology-t.result.now.procs ≡ length procs = ap (λ (t : Topology). length t.procs) c.topology-t.ensures.topology in
    let within : p < length procs = omega (arith, same, c.len-p-end.ensures, c.loop-p-test.true) in
    let count : length c.topology-t.result.now.slaves ≡ length slaves = ap (λ (t : Topology). length t.slaves) c.topology-t.ensures.topology in
    let P : Needs → Type 0 = λ power. FollowRuns (length slaves) c.loop-p.runs (slice_set c.loop-p.runs p c.is_awake-run.result) c.loop-p.power power in
    record {
      places = length-set c.loop-p.runs p c.is_awake-run.result ∙ c.loop-p.invariant.places;
      follow = more_runs (length slaves) c.args.runs.now c.loop-p.runs (slice_set c.loop-p.runs p c.is_awake-run.result) c.args.power.now c.loop-p.power c.put.new.power
          c.loop-p.invariant.follow
          (subst P (sym (c.put.ensures ∙ ap (λ n. record c.loop-p.power { children = with_need_at (n + p) c.is_awake-run.result c.loop-p.power.children }) (c.len.ensures ∙ count)))
          (one_run (length slaves) c.loop-p.runs p c.is_awake-run.result c.loop-p.power (omega (arith, within, c.loop-p.invariant.places))));
      runs = elim ((slice_get_cases procs p).1) [
        | inl here ↦ placed_step (run_of core) procs c.loop-p.runs p here.0 c.is_awake-run.result _ here.2 (omega arith) run c.loop-p.invariant.runs
        | inr past ↦ absurd (omega (arith, past.0))
      ];
    }
