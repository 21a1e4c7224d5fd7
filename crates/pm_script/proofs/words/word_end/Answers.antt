-- Each byte that is plain and no blank goes on with the word.
use Rattle.std.proofs.Common.{◌∙◌, sym}
use Rattle.pm_script.proofs.WordsLemmas.{solid_on, unsolid_ends}
use Rattle.pm_script.proofs.words.word_end.Goals as goal

pub returns-then-not-is_solid-clause-word : goal.returns-then-not-is_solid-clause-word
returns-then-not-is_solid-clause-word c start plain =
    sym (c.bytes.invariant.word start)
    ∙ unsolid_ends c.args.text.now c.bytes.at c.bytes-test.true (sym c.is_solid.ensures ∙ c.if-not-is_solid.true) plain start

pub bytes-preserved : goal.bytes-preserved
bytes-preserved c =
    let on = solid_on c.args.text.now c.bytes.at c.bytes-test.true (sym c.is_solid.ensures ∙ c.if-not-is_solid.false) in
    record {
      plain = on.0 ∙ c.bytes.invariant.plain;
      word = λ start. on.1 start ∙ c.bytes.invariant.word start;
    }
