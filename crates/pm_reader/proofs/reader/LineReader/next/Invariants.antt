use Rattle.std.proofs.Common.{◌+◌, cond}
use Rattle.pm_io.specs.Readings.{Meanwhile}
use Rattle.pm_reader.specs.Reader.{ComesOn, Grew, KnowsEnd}
use Rattle.pm_reader.proofs.reader.LineReader.next.Given as goal

abbrev pub invariant-loop-taken : goal.invariant-loop-taken
invariant-loop-taken g l = record {
  grew : Grew g.I.Inputs.observable l.id l.fn.self l.self (g.I.Inputs.state l.fn.inputs) (g.I.Inputs.state l.inputs);
  reads : Meanwhile (g.I.Inputs.state l.fn.inputs) (g.I.Inputs.state l.inputs) (ComesOn l.id l.fn.self l.self);
  knows : KnowsEnd g.I.Inputs.observable l.id l.fn.self (g.I.Inputs.state l.fn.inputs) → KnowsEnd g.I.Inputs.observable l.id l.self (g.I.Inputs.state l.inputs);
}

abbrev pub decreases-loop-taken : goal.decreases-loop-taken
decreases-loop-taken g l = l.self.credit + cond l.self.ended 0 1
