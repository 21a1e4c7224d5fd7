use Rattle.std.proofs.Common.{◌≡◌, ◌<◌, length, slice_get, Some, sym, ◌∙◌, ap, arith}
use Rattle.std.proofs.lemmas.List.{length-set}
use Rattle.std.proofs.lemmas.Option.{slice_get_within}
use Rattle.pm_topology.specs.Units.{needs_in}
use Rattle.pm_topology.specs.declared.topology.Topology.{Topology}
use Rattle.pm_state.specs.Values.{chosen, need_of, state_at}
use Rattle.pm_state.proofs.PlacedLemmas.{placed_step}
use Rattle.pm_values.proofs.needs.choose.Goals as goal

pub loop-s-preserved : goal.loop-s-preserved
loop-s-preserved c =
    let slaves = c.args.tables.now.fixed.topology.slaves in
    let core = c.args.tables.now.now.core in
    let s = c.loop-s.s in
    let slave = c.get.result.now in
    let same : c.topology-t.result.now.slaves ≡ slaves = ap (λ (t : Topology). t.slaves) c.topology-t.ensures.topology in
    let found : slice_get slaves s ≡ Some slave = ap (λ xs. slice_get xs s) (sym same) ∙ c.get.ensures in
    let within : s < length slaves = slice_get_within slaves s slave found in
    let state : c.state_of-state.result ≡ chosen core s slave = c.state_of-state.ensures ∙ ap (λ o. state_at s o core) found in
    record {
      states_places = length-set c.loop-s.states s c.state_of-state.result ∙ c.loop-s.invariant.states_places;
      needs_places = length-set c.loop-s.needs s c.needs_in.result ∙ c.loop-s.invariant.needs_places;
      states = placed_step (chosen core) slaves c.loop-s.states s slave c.state_of-state.result _ found (omega arith) state c.loop-s.invariant.states;
      needs = placed_step (need_of core) slaves c.loop-s.needs s slave c.needs_in.result _ found (omega arith)
          (c.needs_in.ensures ∙ ap (λ k. needs_in k slave) state) c.loop-s.invariant.needs;
    }
