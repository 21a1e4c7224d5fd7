-- The rows of the code's table are those of the table of line forms.
use Rattle.pm_script.proofs.FormsLemmas.{found_row, found_short}
use Rattle.pm_script.proofs.forms.form_of.Goals as goal

pub returns-clause-row : goal.returns-clause-row
returns-clause-row c = found_row _ _ _ c.first_with.ensures

pub returns-clause-short : goal.returns-clause-short
returns-clause-short c = found_short c.args.word.now c.first_with.result (found_row _ _ _ c.first_with.ensures)
