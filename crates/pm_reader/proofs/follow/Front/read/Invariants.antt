use Rattle.std.proofs.Common.{◌+◌, length}
use Rattle.pm_reader.proofs.FrontLemmas.{Reads}
use Rattle.pm_reader.proofs.follow.Front.read.Given as goal

abbrev pub invariant-lines : goal.invariant-lines
invariant-lines g l = Reads g.I.Inputs.observable l.id (g.I.Inputs.state l.fn.inputs) (g.I.Inputs.state l.inputs) l.block l.lines l.reader

abbrev pub decreases-lines : goal.decreases-lines
decreases-lines g l = l.reader.credit + length l.reader.bytes
