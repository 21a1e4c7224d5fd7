use Rattle.std.proofs.Common.{◌∙◌, arith, sym}
use Rattle.pm_trace.specs.Step.{answer_line}
use Rattle.pm_trace.proofs.StepTextLemmas.{last_line, no_line}
use Rattle.pm_trace.proofs.step_text.put_rare.Goals as goal

pub returns-then-is_told-clause-text : goal.returns-then-is_told-clause-text
returns-then-is_told-clause-text c =
    last_line c.args.n (answer_line c.args.answer.now) _ c.args.text.now (sym c.is_told.ensures ∙ c.if-is_told.true) (omega (arith, c.told-text)) c.put_answer.ensures.text

pub returns-else-is_told-clause-text : goal.returns-else-is_told-clause-text
returns-else-is_told-clause-text c =
    no_line c.args.n (answer_line c.args.answer.now) c.args.text.now (sym c.is_told.ensures ∙ c.if-is_told.false) (omega (arith, c.told-text))
