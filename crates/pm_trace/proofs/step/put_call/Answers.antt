use Rattle.std.proofs.Common.{◌∙◌, ◌++◌, List, ℕ, ap, sym}
use Rattle.std.specs.Prelude.{decimal}
use Rattle.pm_trace.specs.declared.line.Word.TheVariants as word
use Rattle.pm_trace.specs.declared.step.StepLine.TheVariants as told
use Rattle.pm_trace.specs.Line.{spaced}
use Rattle.pm_trace.specs.Step.{step_words}
use Rattle.pm_trace.proofs.LineLemmas.{line_before}
use Rattle.pm_trace.proofs.step.put_call.Goals as goal

pub returns-clause-text : goal.returns-clause-text
returns-clause-text c =
    let words = step_words (told.Call c.args.call.now) in
    c.put_digits.ensures.text
    ∙ ap (λ (later : List ℕ). decimal c.args.n ++ later)
    (c.call_words-at.ensures.text ∙ ap (λ (later : List ℕ). spaced words later) c.put_byte-at.ensures.text)
    ∙ sym (line_before (word.Number c.args.n) words _)
