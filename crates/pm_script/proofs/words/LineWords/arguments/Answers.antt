-- A word that is no number of its width leaves with none; so does the last word with all that were read.
use Rattle.std.proofs.Common.{◌∙◌, sym, arith}
use Rattle.std.proofs.lemmas.Grind.{common_steps}
use Rattle.std.proofs.lemmas.Option.{slice_get-get_or}
use Rattle.pm_io.specs.Words.{word_texts}
use Rattle.pm_script.proofs.ArgumentsLemmas.{no_word, one_bad, one_more}
use Rattle.pm_script.proofs.words.LineWords.arguments.Goals as goal

pub returns-in_default : goal.returns-in_default
returns-in_default c =
    sym (no_word c.args.widths.now (word_texts c.args.self.now) c.widths.place c.widths.arguments.items _ c.widths.invariant.read (sym c.in_default.ensures))

pub returns-in_err-argument_of : goal.returns-in_err-argument_of
returns-in_err-argument_of c =
    rw c.from_residual.ensures
    (sym (one_bad c.args.widths.now (word_texts c.args.self.now) c.widths.place c.widths.arguments.items _ c.widths.invariant.read _ c.in-Some.text.now
    (slice_get-get_or c.args.widths.now c.widths.place _ c.widths-test.true) (sym c.in-Some.ensures) (sym c.argument_of.ensures ∙ c.in_err-argument_of.was)))

pub widths-preserved : goal.widths-preserved
widths-preserved c = record {
  count = grind (arith, common_steps);
  read = rw c.push.ensures.items
      (one_more c.args.widths.now (word_texts c.args.self.now) c.widths.place c.widths.arguments.items _ c.widths.invariant.read _ c.in-Some.text.now c.in_ok-argument_of.field-0
      (slice_get-get_or c.args.widths.now c.widths.place _ c.widths-test.true) (sym c.in-Some.ensures) (sym c.argument_of.ensures ∙ c.in_ok-argument_of.was));
}
