use Rattle.std.proofs.Common.{◌≡◌, ◌+◌, ◌<◌, ◌++◌, ◌||◌, Bool, List, true, length, take, drop, ◌∙◌, ap, sym, subst, inl, inr, arith}
use Rattle.std.proofs.lemmas.List.{length-set}
use Rattle.std.proofs.lemmas.Option.{slice_get_cases}
use Rattle.pm_topology.specs.declared.topology.Topology.{Topology}
use Rattle.pm_state.specs.Values.{placed}
use Rattle.pm_values.specs.Along.{down_after, down_logged, is_down}
use Rattle.pm_state.proofs.PlacedLemmas.{placed_step, rest_after, same_at}
use Rattle.pm_values.proofs.along.add_downs.Goals as goal

pub loop-p-preserved : goal.loop-p-preserved
loop-p-preserved c =
    let book = c.args.tables.now in
    let procs = book.fixed.topology.procs in
    let downs = c.args.downs.now in
    let p = c.loop-p.p in
    let same : length c.topology-t.result.now.procs ≡ length procs = ap (λ (t : Topology). length t.procs) c.topology-t.ensures.topology in
    let within : p < length procs = omega (arith, same, c.len-p-end.ensures, c.loop-p-test.true) in
    let added : Bool = down_logged p c.loop-p.downs || is_down book p in
    let is : added ≡ (down_logged p downs || is_down book p) = ap (λ b. b || is_down book p) (same_at c.loop-p.downs downs p true c.loop-p.invariant.rest) in
    let Added : List Bool → Type 0 = λ ds. take (p + 1) ds ++ placed (down_after downs book) (p + 1) (drop (p + 1) procs) ≡ placed (down_after downs book) 0 procs in
    record {
      places = ap length c.add_down.ensures ∙ (length-set c.loop-p.downs p added ∙ c.loop-p.invariant.places);
      rest = ap (drop (p + 1)) c.add_down.ensures ∙ rest_after c.loop-p.downs downs p added c.loop-p.invariant.rest;
      downs = elim ((slice_get_cases procs p).1) [
        | inl here ↦
            subst Added (sym c.add_down.ensures)
            (placed_step (down_after downs book) procs c.loop-p.downs p here.0 added _ here.2 (omega arith) is c.loop-p.invariant.downs)
        | inr past ↦ absurd (omega (arith, past.0))
      ];
    }
