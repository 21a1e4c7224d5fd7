use Rattle.std.proofs.Common.{◌∙◌, ◌+◌, ◌<◌, refl, arith, length}
use Rattle.pm_rows.proofs.Linked.{passing_next, visited}
use Rattle.pm_rows.proofs.Ranges.{untouched_before, untouched_past}
use Rattle.pm_rows.proofs.Turns.{ends, len_here, may_put, row_here, skip_to, starts}
use Rattle.pm_rows.proofs.passing.pass_over.Goals as goal

pub next_for-k-requires : goal.next_for-k-requires
next_for-k-requires g c = c.cover-first.ensures.order

pub rows-init : goal.rows-init
rows-init g c = (
  passing_next c.args.pass c.args.known.now c.args.table.now.entries c.args.steps.now _ c.next_for-k.result _ c.args.table.now c.args.steps.now
      (skip_to _ 0 c.args.pass c.args.known.now c.args.table.now.entries c.args.steps.now c.args.table.now c.args.steps.now
      (starts c.args.pass c.args.known.now c.args.table.now c.args.steps.now c.requires)
      (omega arith) (omega (arith, c.cover-first.ensures.order, c.cover-first.ensures.within))
      (λ j x at past below. untouched_before c.args.pass _ _ c.args.table.now.entries c.cover-first.ensures j x at below))
      c.next_for-k.ensures c.cover-first.ensures.within,
  refl,
  refl,
  c.next_for-k.ensures.within,
)

pub visit-requires-clause-within : goal.visit-requires-clause-within
visit-requires-clause-within g c =
    let size = len_here c.args.pass c.args.known.now c.args.table.now.entries c.args.steps.now c.rows.k c.rows.table c.rows.steps c.rows.invariant.0 in
    omega (arith, size, c.cover-first.ensures.within, c.rows-test.true)

pub visit-requires-clause-ready : goal.visit-requires-clause-ready
visit-requires-clause-ready g c = λ x at placed few.
    let within : c.rows.k < length c.args.table.now.entries = omega (arith, c.cover-first.ensures.within, c.rows-test.true) in
    let here = row_here c.args.pass c.args.known.now c.args.table.now.entries c.args.steps.now c.rows.k c.rows.table c.rows.steps c.rows.invariant.0 x at within in
    let size = len_here c.args.pass c.args.known.now c.args.table.now.entries c.args.steps.now c.rows.k c.rows.table c.rows.steps c.rows.invariant.0 in
    may_put c.args.pass c.args.known.now c.args.table.now.entries c.args.steps.now c.rows.k c.rows.table c.rows.steps c.rows.invariant.0
    x here placed (omega (arith, size, few))

pub returns-clause-rows : goal.returns-clause-rows
returns-clause-rows g c =
    (ends c.args.pass c.args.known.now c.args.table.now.entries c.args.steps.now (length c.args.table.now.entries) c.rows.table c.rows.steps
    (skip_to (length c.args.table.now.entries) c.rows.k c.args.pass c.args.known.now c.args.table.now.entries c.args.steps.now c.rows.table c.rows.steps c.rows.invariant.0
    (omega (arith, c.rows.invariant.3, c.cover-first.ensures.within)) (omega arith)
    (λ j x at past below. untouched_past c.args.pass _ _ c.args.table.now.entries c.cover-first.ensures j x at (omega (arith, past, c.rows-test.false))))
    refl).changed

pub returns-clause-counted : goal.returns-clause-counted
returns-clause-counted g c =
    (ends c.args.pass c.args.known.now c.args.table.now.entries c.args.steps.now (length c.args.table.now.entries) c.rows.table c.rows.steps
    (skip_to (length c.args.table.now.entries) c.rows.k c.args.pass c.args.known.now c.args.table.now.entries c.args.steps.now c.rows.table c.rows.steps c.rows.invariant.0
    (omega (arith, c.rows.invariant.3, c.cover-first.ensures.within)) (omega arith)
    (λ j x at past below. untouched_past c.args.pass _ _ c.args.table.now.entries c.cover-first.ensures j x at (omega (arith, past, c.rows-test.false))))
    refl).kept

pub returns-clause-cost : goal.returns-clause-cost
returns-clause-cost g c =
    (ends c.args.pass c.args.known.now c.args.table.now.entries c.args.steps.now (length c.args.table.now.entries) c.rows.table c.rows.steps
    (skip_to (length c.args.table.now.entries) c.rows.k c.args.pass c.args.known.now c.args.table.now.entries c.args.steps.now c.rows.table c.rows.steps c.rows.invariant.0
    (omega (arith, c.rows.invariant.3, c.cover-first.ensures.within)) (omega arith)
    (λ j x at past below. untouched_past c.args.pass _ _ c.args.table.now.entries c.cover-first.ensures j x at (omega (arith, past, c.rows-test.false))))
    refl).cost

pub rows-smaller : goal.rows-smaller
rows-smaller g c = omega (arith, c.next_for-k-in-rows.ensures.after, c.rows-test.true)

pub rows-preserved : goal.rows-preserved
rows-preserved g c =
    let one = visited c.args.pass c.args.known.now c.args.table.now.entries c.args.steps.now c.rows.k c.rows.table c.rows.steps c.visit.new.table c.visit.new.steps
    c.rows.invariant.0 (omega (arith, c.cover-first.ensures.within, c.rows-test.true)) c.visit.ensures
    in (
      passing_next c.args.pass c.args.known.now c.args.table.now.entries c.args.steps.now (c.rows.k + 1) c.next_for-k-in-rows.result _
          c.visit.new.table c.visit.new.steps one.0 c.next_for-k-in-rows.ensures c.cover-first.ensures.within,
      one.1 ∙ c.rows.invariant.1,
      one.2 ∙ c.rows.invariant.2,
      c.next_for-k-in-rows.ensures.within,
    )
