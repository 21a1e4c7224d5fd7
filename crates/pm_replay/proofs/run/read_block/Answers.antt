-- What is attached is what the block attaches. If memory runs out the script was read up to some point.
use Rattle.pm_reader.proofs.AheadLemmas.{attaches_by, read_calls}
use Rattle.pm_replay.proofs.run.read_block.Goals as goal

pub returns-clause-front : goal.returns-clause-front
returns-clause-front g c =
    let read = c.in_ok-front.ensures.ahead in
    attaches_by g.I.Inputs.observable c.args.id (g.I.Inputs.state c.args.inputs.now) (g.I.Inputs.state c.read.new.inputs) c.read.new.block c.in_ok-front.front read
    c.in_ok-attached.attached (c.in_ok-attached.ensures read.pieces read.is_kept)

pub returns-clause-reads : goal.returns-clause-reads
returns-clause-reads g c =
    read_calls g.I.Inputs.observable c.args.id (g.I.Inputs.state c.args.inputs.now) (g.I.Inputs.state c.read.new.inputs) c.read.new.block c.in_ok-front.front c.in_ok-front.ensures.ahead

pub returns-in_err-attached-clause-reads : goal.returns-in_err-attached-clause-reads
returns-in_err-attached-clause-reads g c =
    read_calls g.I.Inputs.observable c.args.id (g.I.Inputs.state c.args.inputs.now) (g.I.Inputs.state c.read.new.inputs) c.read.new.block c.in_ok-front.front c.in_ok-front.ensures.ahead
