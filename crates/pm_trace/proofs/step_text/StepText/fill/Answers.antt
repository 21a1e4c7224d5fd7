use Rattle.std.proofs.Common.{◌∙◌, ◌++◌, List, ℕ, ap, map}
use Rattle.pm_trace.specs.declared.step.StepLine.TheVariants as told
use Rattle.pm_trace.specs.Step.{notices_in}
use Rattle.pm_trace.specs.StepText.{lines_of_step}
use Rattle.pm_trace.proofs.StepTextLemmas.{few_lines}
use Rattle.pm_trace.proofs.step_text.StepText.fill.Goals as goal

pub returns : goal.returns
returns c =
    let n = c.args.n in
    let out = c.args.out.now in
    let commands = c.as_slice-2.result.now in
    let starts = c.as_slice.result.now in
    λ filled. few_lines n out.done.items commands starts (notices_in out) c.args.answer.now _ c.as_slice-2.ensures c.as_slice.ensures
    (c.if-not-is_short.ensures.late filled) (c.if-not-is_short.ensures.callbacks filled)
    (rw (c.number-number.ensures) at c.put_commands-self-inside.ensures.text
    ∙ ap (λ (later : List ℕ). lines_of_step n (map told.Command commands) ++ later)
    (c.put_starts-at.ensures.text ∙ ap (λ (later : List ℕ). lines_of_step n (map told.Start starts) ++ later) (rw (c.number-number.ensures) at c.put_last-at.ensures.text)))
