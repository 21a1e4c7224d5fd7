-- A blank is passed.
use Rattle.std.proofs.Common.{◌∙◌, sym}
use Rattle.pm_script.proofs.WordsLemmas.{blank_on}
use Rattle.pm_script.proofs.words.blanks_end.Goals as goal

pub bytes-preserved : goal.bytes-preserved
bytes-preserved c =
    let on = blank_on c.args.text.now c.bytes.at c.bytes-test.true (sym c.is_blank.ensures ∙ c.if-not-is_blank.false) in
    record {
      plain = on.0 ∙ c.bytes.invariant.plain;
      words = on.1 ∙ c.bytes.invariant.words;
    }
