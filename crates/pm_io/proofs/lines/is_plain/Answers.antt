use Rattle.std.proofs.Common.{◌∙◌, sym}
use Rattle.pm_io.proofs.LinesLemmas.{printable_is_plain}
use Rattle.pm_io.proofs.lines.is_plain.Goals as goal

pub returns-then-is_printable : goal.returns-then-is_printable
returns-then-is_printable c =
    c.if-is_printable.true ∙ sym (printable_is_plain c.args.text.now (sym c.is_printable.ensures ∙ c.if-is_printable.true))
