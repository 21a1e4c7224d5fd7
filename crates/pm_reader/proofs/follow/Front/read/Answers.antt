-- One more line of the block was read, or the answer that ends it.
use Rattle.std.proofs.Common.{◌≡◌, true, false, rules}
use Rattle.pm_io.specs.Readings.{Meanwhile}
use Rattle.pm_reader.specs.Follow.{IsBrokenOff}
use Rattle.pm_reader.proofs.FrontLemmas.{attached_as, if_err, reads_done, reads_more, reads_none}
use Rattle.pm_reader.proofs.StandsLemmas.{broken_off}
use Rattle.pm_reader.proofs.follow.Front.read.Goals as goal

pub lines-init : goal.lines-init
lines-init g c = reads_none g.I.Inputs.observable c.args.id (g.I.Inputs.state c.args.inputs.now) c.args.block.now c.new-reader.result c.requires.empty c.new-reader.ensures

pub returns-in_err-attach-clause-reads : goal.returns-in_err-attach-clause-reads
returns-in_err-attach-clause-reads g c =
    if_err c.from_residual.result (Meanwhile (g.I.Inputs.state c.args.inputs.now) (g.I.Inputs.state c.next-taken.new.inputs) (IsBrokenOff c.args.id))
    (broken_off c.args.id (g.I.Inputs.state c.args.inputs.now) (g.I.Inputs.state c.lines.inputs) (g.I.Inputs.state c.next-taken.new.inputs) c.lines.reader c.next-taken.new.self c.lines.invariant.so_far c.next-taken.result c.next-taken.ensures.reads)

pub returns-then-not-branch-clause-ahead : goal.returns-then-not-branch-clause-ahead
returns-then-not-branch-clause-ahead g c =
    let off : c.in_ok-attach.field-0 ≡ false = search rules in
    reads_done g.I.Inputs.observable c.args.id (g.I.Inputs.state c.args.inputs.now) (g.I.Inputs.state c.lines.inputs) (g.I.Inputs.state c.next-taken.new.inputs) c.lines.block c.attach.new.block
    (record { reader = c.next-taken.new.self; line = c.next-taken.new.line; taken = c.next-taken.result; lines = c.lines.lines })
    c.lines.reader c.lines.invariant c.next-taken.ensures.turn c.next-taken.ensures.knows c.next-taken.ensures.stuck c.next-taken.ensures.fault c.next-taken.ensures.reads
    (attached_as c.in_ok-attach.field-0 false c.next-taken.result c.as_slice.result.now c.next-taken.new.line.items c.lines.invariant.pieces c.attach.new.block off c.as_slice.ensures.value
    (c.in_ok-attach.ensures c.lines.invariant.pieces c.lines.invariant.is_kept))

pub lines-preserved : goal.lines-preserved
lines-preserved g c =
    let on : c.in_ok-attach.field-0 ≡ true = search rules in
    reads_more g.I.Inputs.observable c.args.id (g.I.Inputs.state c.args.inputs.now) (g.I.Inputs.state c.lines.inputs) (g.I.Inputs.state c.next-taken.new.inputs) c.lines.block c.attach.new.block
    c.lines.lines c.lines.reader c.next-taken.new.self c.next-taken.result c.next-taken.new.line.items c.lines.invariant c.next-taken.ensures.turn c.next-taken.ensures.knows c.next-taken.ensures.reads
    (attached_as c.in_ok-attach.field-0 true c.next-taken.result c.as_slice.result.now c.next-taken.new.line.items c.lines.invariant.pieces c.attach.new.block on c.as_slice.ensures.value
    (c.in_ok-attach.ensures c.lines.invariant.pieces c.lines.invariant.is_kept))
