use Rattle.std.proofs.Common.{arith}
use Rattle.pm_rows.proofs.Blank.{blank_end, blank_size, blank_step}
use Rattle.pm_rows.proofs.fitting.blank_all.Goals as goal

pub write-requires : goal.write-requires
write-requires c =
    let size = blank_size c.loop-k.k c.args.cells.now c.loop-k.cells (omega (arith, c.requires, c.loop-k-test.true)) c.loop-k.invariant in
    omega (arith, size, c.requires, c.loop-k-test.true)

pub loop-k-preserved : goal.loop-k-preserved
loop-k-preserved c =
    blank_step c.loop-k.k c.args.cells.now c.loop-k.cells c.write.new.self c.blank_row.result (omega (arith, c.requires, c.loop-k-test.true)) c.loop-k.invariant c.write.ensures c.blank_row.ensures

pub returns : goal.returns
returns c =
    blank_end c.loop-k.k c.args.count c.args.cells.now c.loop-k.cells c.requires (omega (arith, c.loop-k-test.false, c.loop-k.auto.k-end)) c.loop-k.invariant
