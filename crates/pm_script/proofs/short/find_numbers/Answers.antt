-- One more number was found: a blank is passed, or the line ends.
use Rattle.std.proofs.Common.{◌∙◌, arith}
use Rattle.std.proofs.lemmas.Grind.{common_steps}
use Rattle.pm_script.proofs.FirstLineLemmas.{plain_ends}
use Rattle.pm_script.proofs.ShortLemmas.{at_feed, past_blank, put_between, put_last}
use Rattle.pm_script.proofs.short.find_numbers.Goals as goal

pub returns-then-word-clause-ends : goal.returns-then-word-clause-ends
returns-then-word-clause-ends c =
    let text = c.args.text.now in
    let word = c.in_ok-word.word in
    let stands = c.in_ok-word.ensures in
    plain_ends text c.args.from word.end (at_feed text c.words.at word stands c.if-word.true) stands.within (stands.plain ∙ c.words.invariant.plain)

pub returns-then-word-clause-numbers : goal.returns-then-word-clause-numbers
returns-then-word-clause-numbers c =
    put_last c.args.text.now c.words.at c.in_ok-word.word c.in_ok-word.ensures c.words.numbers c.put.new.self _ c.words.invariant.so_far c.put.ensures c.if-word.true

pub words-preserved : goal.words-preserved
words-preserved c =
    let past = past_blank c.args.text.now c.words.at c.in_ok-word.word c.in_ok-word.ensures c.if-word.false in
    record {
      count = grind (arith, common_steps);
      within = omega (arith, past.0);
      plain = past.1 ∙ c.words.invariant.plain;
      so_far = put_between c.args.text.now c.words.at c.in_ok-word.word c.in_ok-word.ensures c.words.numbers c.put.new.self _ c.words.invariant.so_far c.put.ensures c.if-word.false;
    }
