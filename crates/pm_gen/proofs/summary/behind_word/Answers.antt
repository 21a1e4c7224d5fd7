use Rattle.std.proofs.Common.{sym}
use Rattle.std.proofs.lemmas.List.{take_rest}
use Rattle.pm_gen.proofs.NamedLemmas.{word_before}
use Rattle.pm_gen.proofs.summary.behind_word.Goals as goal

pub returns-then-text-end-eq32 : goal.returns-then-text-end-eq32
returns-then-text-end-eq32 c = rw take_rest (word_before c.args.text.now c.in_ok-end.end (sym c.in_ok-end.ensures) c.if-end-gt0.true c.if-text-end-eq32.true)
