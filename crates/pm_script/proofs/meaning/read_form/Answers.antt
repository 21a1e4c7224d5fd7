-- The words are counted before one of them is read.
use Rattle.std.proofs.Common.{sym, arith, drop}
use Rattle.pm_io.specs.Words.{word_texts}
use Rattle.pm_script.specs.Forms.{row_of}
use Rattle.pm_script.proofs.MeaningLemmas.{count_arguments, miscounted}
use Rattle.pm_script.proofs.meaning.read_form.Goals as goal

pub returns-then-not-has_arguments : goal.returns-then-not-has_arguments
returns-then-not-has_arguments c =
    let count = count_arguments c.args.words.now in
    sym (miscounted (row_of c.args.form) (drop 1 (word_texts c.args.words.now)) (λ right. let counted = c.if-not-has_arguments.ensures.1 (omega (arith, count, right.0), omega (arith, count, right.1)) in cc))
