use Rattle.std.proofs.Common.{◌≡◌, ℕ, List, slice_get, Some, sym, ◌∙◌, ap}
use Rattle.pm_state.specs.Below.{slaves_below}
use Rattle.pm_state.specs.Scope.{clear}
use Rattle.pm_state.specs.State.{Fixed, State}
use Rattle.pm_state.proofs.ScopeLemmas.{visit_step}
use Rattle.pm_state.proofs.WrittenLemmas.{visit_written}
use Rattle.pm_state.proofs.tables.Tables.clear_slaves.Goals as goal

pub loop-k-preserved : goal.loop-k-preserved
loop-k-preserved c =
    let places : List ℕ = slaves_below c.args.self.now.fixed.topology c.args.w in
    let found : slice_get places c.loop-k.k ≡ Some c.get-s.result.now =
    ap (λ (l : List ℕ). slice_get l c.loop-k.k)
    (sym (c.slaves_below-in-loop-k.ensures ∙ ap (λ (f : Fixed). slaves_below f.topology c.args.w) c.loop-k.invariant.fixed))
    ∙ c.get-s.ensures
    in
    record {
      fixed = ap (λ (b : State). b.fixed) c.clear_slave.ensures.book ∙ c.loop-k.invariant.fixed;
      whole = visit_step clear places c.loop-k.k c.get-s.result.now c.loop-k.self c.clear_slave.new.self found c.clear_slave.ensures.book
          ∙ c.loop-k.invariant.whole;
      written = visit_written clear places c.loop-k.k c.get-s.result.now c.loop-k.self c.clear_slave.new.self c.loop-k.changes c.clear_slave.new.changes found
          c.clear_slave.ensures.book c.clear_slave.ensures.written
          ∙ c.loop-k.invariant.written;
    }
