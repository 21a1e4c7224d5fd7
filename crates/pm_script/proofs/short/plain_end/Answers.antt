-- Each printable byte goes on with the line, and a line feed ends it.
use Rattle.std.proofs.Common.{◌∙◌, ap, arith, get_or, sym}
use Rattle.pm_io.specs.Lines.{is_plain}
use Rattle.pm_script.specs.Short.{first_line}
use Rattle.pm_script.proofs.FirstLineLemmas.{byte_on, ends_there, printable_is}
use Rattle.pm_script.proofs.WordsLemmas.{plain_step}
use Rattle.pm_script.proofs.short.plain_end.Goals as goal

pub returns-then-not-is_printable : goal.returns-then-not-is_printable
returns-then-not-is_printable c = ends_there c.args.text.now c.bytes.at c.bytes.invariant.within c.bytes-test.true c.bytes.invariant.plain c.feed_at.result c.feed_at.ensures

pub bytes-preserved : goal.bytes-preserved
bytes-preserved c =
    let text = c.args.text.now in
    let at = c.bytes.at in
    let byte = printable_is (get_or text at 0) (sym c.is_printable.ensures ∙ c.if-not-is_printable.false) in
    let on = byte_on text at c.bytes.invariant.within c.bytes-test.true byte.0 in
    record {
      within = omega (arith, on.0);
      plain = plain_step (first_line text) at on.0 (ap is_plain on.1 ∙ byte.1) ∙ c.bytes.invariant.plain;
    }
