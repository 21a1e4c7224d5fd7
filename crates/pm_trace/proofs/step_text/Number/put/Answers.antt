use Rattle.std.proofs.Common.{◌∙◌, ◌++◌, List, ℕ, arith, ap, sym}
use Rattle.std.specs.Prelude.{decimal, drop}
use Rattle.pm_trace.proofs.StepTextLemmas.{front_and_last}
use Rattle.pm_trace.proofs.step_text.Number.put.Goals as goal

pub returns-clause-text : goal.returns-clause-text
returns-clause-text c =
    front_and_last c.self.inside.start c.put_name.result c.self.inside.last (decimal c.args.self.now) c.self.inside.digits c.put_name.new.text (drop c.args.at c.args.text.now)
    (omega (arith, c.self.invariant.0, c.self.told)) (ap decimal (sym c.self.view_is) ∙ c.self.invariant.1)
    (c.put_name.ensures.text ∙ ap (λ (later : List ℕ). c.self.inside.digits ++ later) c.put_byte-last.ensures.text)
