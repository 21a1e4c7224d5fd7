use Rattle.pm_trace.proofs.StepLemmas.{told_zeros}
use Rattle.pm_trace.proofs.step.told_words.Goals as goal

pub returns-then-words-eq0-3-clause-text : goal.returns-then-words-eq0-3-clause-text
returns-then-words-eq0-3-clause-text c =
    told_zeros c.args.words.now _ _ c.told-words c.if-words-eq0.true c.if-words-eq0-2.true c.if-words-eq0-3.true c.put_name.ensures.text
