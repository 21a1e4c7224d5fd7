-- A line with a form means what its form says.
use Rattle.std.proofs.Common.{◌∙◌, sym, None, Some}
use Rattle.pm_io.specs.Words.{word_texts}
use Rattle.pm_script.specs.Forms.{row_of}
use Rattle.pm_script.proofs.MeaningLemmas.{row_means}
use Rattle.pm_script.proofs.meaning.read_words.Goals as goal

pub returns-in-Some-form_of : goal.returns-in-Some-form_of
returns-in-Some-form_of c =
    c.read_form.ensures
    ∙ row_means (word_texts c.args.words.now) c.in-Some.keyword.now (Some (row_of c.in-Some-form_of.form)) (sym c.in-Some.ensures) c.in-Some-form_of.ensures.row

pub returns-in-None-form_of : goal.returns-in-None-form_of
returns-in-None-form_of c =
    c.read_other.ensures
    ∙ row_means (word_texts c.args.words.now) c.in-Some.keyword.now None (sym c.in-Some.ensures) c.in-None-form_of.ensures.row
