use Rattle.std.proofs.Common.{arith}
use Rattle.std.proofs.lemmas.List.{drop_all}
use Rattle.pm_trace.proofs.line.TextLine.clear.Goals as goal

pub returns : goal.returns
returns c = drop_all 128 c.self.inside.text (omega (arith, c.self.told))
