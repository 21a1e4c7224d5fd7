use Rattle.std.proofs.Common.{◌∙◌, ◌++◌, List, ℕ, append-nil, arith, ap, sym}
use Rattle.std.specs.Prelude.{decimal}
use Rattle.pm_trace.specs.declared.step.StepLine.TheVariants as told
use Rattle.pm_trace.specs.Line.{spaced}
use Rattle.pm_trace.specs.Step.{numbered_line, step_words}
use Rattle.pm_trace.proofs.StepTextLemmas.{line_at_end}
use Rattle.pm_trace.proofs.step_text.put_reply.Goals as goal

pub returns-clause-text : goal.returns-clause-text
returns-clause-text c =
    let words = step_words (told.Reply c.args.master c.args.response.now) in
    (line_at_end c.args.number.now words c.args.text.now _ (omega (arith, c.told-text))
    (c.put.ensures.text
    ∙ ap (λ (later : List ℕ). decimal c.args.number.now ++ later)
    (c.reply_words-at.ensures.text ∙ ap (λ (later : List ℕ). spaced words later) c.put_byte-at.ensures.text)))
    ∙ sym (append-nil (numbered_line c.args.number.now words))
