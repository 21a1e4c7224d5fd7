use Rattle.std.proofs.Common.{◌∙◌, sym, arith}
use Rattle.pm_rows.specs.Seeking.{is_sought}
use Rattle.pm_rows.proofs.Ranges.{find_hit, find_miss, sought_front, sought_rest}
use Rattle.pm_rows.proofs.seeking.found.Goals as goal

pub loop-k-init : goal.loop-k-init
loop-k-init c = sought_front c.args.sought c.slave.result _ _ c.args.table.now.entries c.slave.ensures c.span-first.ensures

pub returns-then-is : goal.returns-then-is
returns-then-is c =
    sym (find_hit (is_sought c.args.sought) c.args.table.now.entries c.loop-k.k c.peek-entry.result c.peek-entry.ensures (sym c.is.ensures ∙ c.if-is.true))
    ∙ c.loop-k.invariant

pub loop-k-preserved : goal.loop-k-preserved
loop-k-preserved c =
    find_miss (is_sought c.args.sought) c.args.table.now.entries c.loop-k.k c.peek-entry.result c.peek-entry.ensures (sym c.is.ensures ∙ c.if-is.false)
    ∙ c.loop-k.invariant

pub returns : goal.returns
returns c =
    sym (sought_rest c.args.sought c.slave.result _ _ c.loop-k.k c.args.table.now.entries c.slave.ensures c.span-first.ensures (omega (arith, c.loop-k-test.false)))
    ∙ c.loop-k.invariant
