use Rattle.std.proofs.Common.{arith}
use Rattle.pm_trace.proofs.LineLemmas.{at_end}
use Rattle.pm_trace.proofs.step.command_entry.Goals as goal

pub returns : goal.returns
returns c = at_end 128 c.line.inside.text _ _ (omega (arith, c.line.told)) c.put_command-line-inside.ensures.text
