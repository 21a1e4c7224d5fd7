use Rattle.std.proofs.Common.{◌∷◌, ◌∙◌, List, ℕ, arith, ap}
use Rattle.std.proofs.lemmas.List.{drop-set, drop_all}
use Rattle.pm_trace.proofs.line.put_feed.Goals as goal

pub returns-clause-text : goal.returns-clause-text
returns-clause-text c =
    drop-set c.args.text.now 127 10 (omega (arith, c.told-text))
    ∙ ap (λ (later : List ℕ). 10 ∷ later) (drop_all 128 c.args.text.now (omega (arith, c.told-text)))
