use Rattle.std.proofs.Common.{◌≡◌, ℕ, List, slice_get, Some, sym, ◌∙◌, ap}
use Rattle.pm_state.specs.Below.{procs_below}
use Rattle.pm_state.specs.Changes.{written_by}
use Rattle.pm_state.specs.Prims.{changed}
use Rattle.pm_state.specs.Scope.{off}
use Rattle.pm_state.specs.State.{Fixed, State}
use Rattle.pm_state.proofs.ScopeLemmas.{visit_step}
use Rattle.pm_state.proofs.WrittenLemmas.{visit_written}
use Rattle.pm_state.proofs.tables.Tables.put_off_below.Goals as goal

pub loop-k-preserved : goal.loop-k-preserved
loop-k-preserved c =
    let fixed : Fixed = c.args.self.now.fixed in
    let places : List ℕ = procs_below fixed.topology c.args.w in
    let p : ℕ = c.get-p.result.now in
    let book : State = c.loop-k.self in
    let found : slice_get places c.loop-k.k ≡ Some p =
    ap (λ (l : List ℕ). slice_get l c.loop-k.k)
    (sym (c.procs_below-in-loop-k.ensures ∙ ap (λ (f : Fixed). procs_below f.topology c.args.w) c.loop-k.invariant.fixed))
    ∙ c.get-p.ensures
    in
    let went : c.put_off.new.self ≡ changed (off fixed p) book =
    c.put_off.ensures.book ∙ ap (λ (f : Fixed). changed (off f p) book) c.loop-k.invariant.fixed
    in
    let wrote : c.put_off.new.changes ≡ written_by (off fixed p) book c.loop-k.changes =
    c.put_off.ensures.written ∙ ap (λ (f : Fixed). written_by (off f p) book c.loop-k.changes) c.loop-k.invariant.fixed
    in
    record {
      fixed = ap (λ (b : State). b.fixed) went ∙ c.loop-k.invariant.fixed;
      whole = visit_step (off fixed) places c.loop-k.k p book c.put_off.new.self found went ∙ c.loop-k.invariant.whole;
      written = visit_written (off fixed) places c.loop-k.k p book c.put_off.new.self c.loop-k.changes c.put_off.new.changes found went wrote
          ∙ c.loop-k.invariant.written;
    }
