use Rattle.std.proofs.Common.{None, ◌≡◌, ◌+◌, ◌∙◌, sym, ap, fold, drop, ◌==◌, true, false, arith}
use Rattle.std.proofs.lemmas.Bool.{eq-eqb}
use Rattle.std.proofs.lemmas.Bool.Decides.{nat_tests}
use Rattle.pm_rows.specs.Counted.{with_limit}
use Rattle.pm_rows.specs.Wanted.{least}
use Rattle.pm_rows.proofs.Cells.{on, off}
use Rattle.pm_rows.proofs.Ranges.{limit_front, limit_rest, permitted_front, permitted_rest}
use Rattle.pm_rows.proofs.table.Table.limit_on.Goals.{then-seed-slave, else-seed-slave}
use Rattle.pm_rows.proofs.table.Table.limit_on.Goals as goal

pub loop-k-preserved : goal.loop-k-preserved
loop-k-preserved g c =
    elim c.if-seed-slave.branch [
      | then-seed-slave w ↦
          let is : (c.seed.result.slave == c.args.slave) ≡ true = eq-eqb _ _ w.if-seed-slave.true in
          let both = on c.args.slave c.args.self.now.entries c.loop-k.k w.entry.result c.seed.result c.loop-k.limit w.entry.ensures.entry c.seed.ensures is in
          record {
            limit =
                ap (λ l. fold (with_limit c.args.slave) l (drop (c.loop-k.k + 1) c.args.self.now.entries))
                (w.limit-is ∙ w.least-limit.ensures ∙ ap (least c.loop-k.limit) w.limit_by.ensures)
                ∙ both.0 ∙ c.loop-k.invariant.limit;
            steps = omega (arith, both.1, w.steps-is, w.entry.ensures.steps, c.loop-k.invariant.steps);
          }
      | else-seed-slave w ↦
          let is : (c.seed.result.slave == c.args.slave) ≡ false = grind (arith, nat_tests) in
          let both = off c.args.slave c.args.self.now.entries c.loop-k.k c.seed.result c.loop-k.limit c.seed.ensures is in
          record {
            limit =
                ap (λ l. fold (with_limit c.args.slave) l (drop (c.loop-k.k + 1) c.args.self.now.entries)) w.limit-is
                ∙ both.0 ∙ c.loop-k.invariant.limit;
            steps = omega (arith, both.1, w.steps-is, c.loop-k.invariant.steps);
          }
    ]

pub loop-k-init : goal.loop-k-init
loop-k-init g c = record {
  limit = limit_front c.args.slave _ _ c.args.self.now.entries c.span-first.ensures None;
  steps = omega (arith, permitted_front c.args.slave _ _ c.args.self.now.entries c.span-first.ensures);
}

pub returns-clause-limit : goal.returns-clause-limit
returns-clause-limit g c =
    sym (limit_rest c.args.slave _ _ c.args.self.now.entries c.span-first.ensures c.loop-k.k (omega (arith, c.loop-k-test.false)) c.loop-k.limit)
    ∙ c.loop-k.invariant.limit

pub returns-clause-steps : goal.returns-clause-steps
returns-clause-steps g c =
    let none = permitted_rest c.args.slave _ _ c.args.self.now.entries c.span-first.ensures c.loop-k.k (omega (arith, c.loop-k-test.false)) in
    omega (arith, none, c.loop-k.invariant.steps)
