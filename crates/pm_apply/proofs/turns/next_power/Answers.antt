use Rattle.std.proofs.Common.{◌≡◌, subst, arith, inl, inr}
use Rattle.std.proofs.lemmas.Bool.{cases_lt}
use Rattle.pm_apply.specs.Visits.{IsIdleAt}
use Rattle.pm_apply.proofs.turns.next_power.Goals as goal

pub loop-k-preserved : goal.loop-k-preserved
loop-k-preserved c =
    λ j after before.
    elim (cases_lt j c.loop-k.k) [
      | inl early ↦ c.loop-k.invariant j after early
      | inr late ↦ (
          let same : c.loop-k.k ≡ j = omega arith in
          subst (λ k. IsIdleAt c.args.book.now.fixed.topology c.args.kept.now k) same (c.is_visited.ensures c.if-is_visited.false))
    ]
