use Rattle.std.proofs.Common.{◌∙◌, sym, arith}
use Rattle.pm_rows.specs.Wanted.{nothing_wanted}
use Rattle.pm_rows.proofs.ByCounts.{row_off}
use Rattle.pm_rows.proofs.Ranges.{wanted_front, wanted_rest, wanted_next}
use Rattle.pm_rows.proofs.table.Table.collected.Goals as goal

pub loop-k-init : goal.loop-k-init
loop-k-init c =
    wanted_front c.args.slave _ _ c.args.self.now.entries c.span-first.ensures c.args.known.now nothing_wanted (row_off c.args.slave c.args.known.now)

pub loop-k-preserved : goal.loop-k-preserved
loop-k-preserved c =
    wanted_next c.args.slave c.args.known.now c.args.self.now.entries c.loop-k.k c.peek.result c.loop-k.wanted c.with_row-wanted.result
    c.peek.ensures c.with_row-wanted.ensures
    ∙ c.loop-k.invariant

pub returns : goal.returns
returns c =
    sym (wanted_rest c.args.slave _ _ c.args.self.now.entries c.span-first.ensures c.loop-k.k (omega (arith, c.loop-k-test.false)) c.args.known.now
    c.loop-k.wanted (row_off c.args.slave c.args.known.now))
    ∙ c.loop-k.invariant
