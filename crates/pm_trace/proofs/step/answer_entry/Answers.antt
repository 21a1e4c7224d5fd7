use Rattle.std.proofs.Common.{arith}
use Rattle.pm_trace.specs.Step.{answer_line}
use Rattle.pm_trace.proofs.StepLemmas.{last_at_end}
use Rattle.pm_trace.proofs.step.answer_entry.Goals as goal

pub returns : goal.returns
returns c = last_at_end (answer_line c.args.answer.now) 128 c.args.n c.line.inside.text _ (omega (arith, c.line.told)) c.put_answer-line-inside.ensures.text
