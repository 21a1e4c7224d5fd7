use Rattle.std.proofs.Common.{◌∙◌, ◌+◌, ◌<◌, refl, arith, length}
use Rattle.pm_rows.specs.declared.passes.Pass.{Pass}
use Rattle.pm_rows.specs.declared.passes.Pass.TheVariants.{Shift}
use Rattle.pm_rows.proofs.Linked.{passing_next, visited}
use Rattle.pm_rows.proofs.Turns.{ends, len_here, may_put, row_here, starts}
use Rattle.pm_rows.proofs.turning.turn_over.Goals as goal

pub rows-init : goal.rows-init
rows-init g c = (
  passing_next (Shift c.args.m c.args.from c.args.to) c.args.known.now c.args.table.now.entries c.args.steps.now 0 c.next_for-k.result c.len-end.result c.args.table.now c.args.steps.now
      (starts (Shift c.args.m c.args.from c.args.to) c.args.known.now c.args.table.now c.args.steps.now c.requires.tallied) c.next_for-k.ensures (omega (arith, c.len-end.ensures.len)),
  refl,
  refl,
  c.next_for-k.ensures.within,
)

pub turn_own-requires-clause-within : goal.turn_own-requires-clause-within
turn_own-requires-clause-within g c =
    let size = len_here (Shift c.args.m c.args.from c.args.to) c.args.known.now c.args.table.now.entries c.args.steps.now c.rows.k c.rows.table c.rows.steps c.rows.invariant.0 in
    omega (arith, size, c.len-end.ensures.len, c.rows-test.true)

pub turn_own-requires-clause-ready : goal.turn_own-requires-clause-ready
turn_own-requires-clause-ready g c = λ x at placed few.
    let pass : Pass = Shift c.args.m c.args.from c.args.to in
    let within : c.rows.k < length c.args.table.now.entries = omega (arith, c.len-end.ensures.len, c.rows-test.true) in
    let here = row_here pass c.args.known.now c.args.table.now.entries c.args.steps.now c.rows.k c.rows.table c.rows.steps c.rows.invariant.0 x at within in
    let size = len_here pass c.args.known.now c.args.table.now.entries c.args.steps.now c.rows.k c.rows.table c.rows.steps c.rows.invariant.0 in
    may_put pass c.args.known.now c.args.table.now.entries c.args.steps.now c.rows.k c.rows.table c.rows.steps c.rows.invariant.0
    x here placed (omega (arith, size, few))

pub returns-clause-rows : goal.returns-clause-rows
returns-clause-rows g c =
    (ends (Shift c.args.m c.args.from c.args.to) c.args.known.now c.args.table.now.entries c.args.steps.now c.rows.k c.rows.table c.rows.steps
    c.rows.invariant.0 (omega (arith, c.rows.invariant.3, c.len-end.ensures.len, c.rows-test.false))).changed

pub returns-clause-counted : goal.returns-clause-counted
returns-clause-counted g c =
    (ends (Shift c.args.m c.args.from c.args.to) c.args.known.now c.args.table.now.entries c.args.steps.now c.rows.k c.rows.table c.rows.steps
    c.rows.invariant.0 (omega (arith, c.rows.invariant.3, c.len-end.ensures.len, c.rows-test.false))).kept

pub rows-smaller : goal.rows-smaller
rows-smaller g c = omega (arith, c.next_for-k-in-rows.ensures.after, c.rows-test.true)

pub rows-preserved : goal.rows-preserved
rows-preserved g c =
    let pass : Pass = Shift c.args.m c.args.from c.args.to in
    let one = visited pass c.args.known.now c.args.table.now.entries c.args.steps.now c.rows.k c.rows.table c.rows.steps c.turn_own.new.table c.turn_own.new.steps
    c.rows.invariant.0 (omega (arith, c.len-end.ensures.len, c.rows-test.true)) c.turn_own.ensures
    in (
      passing_next pass c.args.known.now c.args.table.now.entries c.args.steps.now (c.rows.k + 1) c.next_for-k-in-rows.result c.len-end.result
          c.turn_own.new.table c.turn_own.new.steps one.0 c.next_for-k-in-rows.ensures (omega (arith, c.len-end.ensures.len)),
      one.1 ∙ c.rows.invariant.1,
      one.2 ∙ c.rows.invariant.2,
      c.next_for-k-in-rows.ensures.within,
    )
