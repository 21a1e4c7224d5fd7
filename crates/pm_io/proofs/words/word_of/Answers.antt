use Rattle.std.proofs.Common.{arith}
use Rattle.std.proofs.lemmas.Grind.{common_steps}
use Rattle.pm_io.proofs.WordsLemmas.{words_from-between, words_from-comment, words_from-begin, words_from-end, words_from-on, words_from-none, words_from-last, answer-none, answer-first, answer-later}
use Rattle.pm_io.proofs.words.word_of.Goals as goal
use Rattle.pm_io.proofs.words.word_of.Goals.{in-None, in-None-3, in-Some+else-left-eq0, in-Some+else-is_blank-2}

pub returns-in-None-2 : goal.returns-in-None-2
returns-in-None-2 c =
    answer-none _ c.bytes.left _ c.bytes.invariant (words_from-comment c.args.text.now c.bytes.at c.bytes.start c.bytes-test.true c.in-None.is (grind (arith, common_steps)) (grind (arith, common_steps)))

pub returns-then-left-eq0 : goal.returns-then-left-eq0
returns-then-left-eq0 c =
    answer-first _ c.bytes.left _ c.bytes.invariant _ _ (words_from-end c.args.text.now c.bytes.at c.bytes.start c.in-Some.first c.bytes-test.true c.in-Some.is (grind (arith, common_steps))) c.if-left-eq0.true

pub bytes-preserved : goal.bytes-preserved
bytes-preserved c =
    elim c.match-start.branch [
      | in-None w ↦
          let next = words_from-between c.args.text.now c.bytes.at c.bytes.start c.bytes-test.true w.in-None.is (grind (arith, common_steps)) in
          cc
      | in-None-3 w ↦
          let next = words_from-begin c.args.text.now c.bytes.at c.bytes.start c.bytes-test.true w.in-None.is (grind (arith, common_steps)) (grind (arith, common_steps)) in
          cc
      | in-Some+else-left-eq0 w ↦
          let later = answer-later _ c.bytes.left _ c.bytes.invariant _ _ (words_from-end c.args.text.now c.bytes.at c.bytes.start w.in-Some.first c.bytes-test.true w.in-Some.is (grind (arith, common_steps))) w.if-left-eq0.false in
          cc
      | in-Some+else-is_blank-2 w ↦
          let next = words_from-on c.args.text.now c.bytes.at c.bytes.start w.in-Some.first c.bytes-test.true w.in-Some.is (grind (arith, common_steps)) in
          cc
    ]

pub returns-in-Some-start : goal.returns-in-Some-start
returns-in-Some-start c =
    answer-first _ c.bytes.left _ c.bytes.invariant _ _ (words_from-last c.args.text.now c.bytes.at c.bytes.start c.in-Some-start.first c.bytes-test.false c.bytes.auto.at-end c.in-Some-start.is) c.if-left-eq0-2.true

pub returns-in_default : goal.returns-in_default
returns-in_default c =
    answer-later _ c.bytes.left _ c.bytes.invariant _ _ (words_from-last c.args.text.now c.bytes.at c.bytes.start c.in-Some-start.first c.bytes-test.false c.bytes.auto.at-end c.in-Some-start.is) c.if-left-eq0-2.false

pub returns-in_default-2 : goal.returns-in_default-2
returns-in_default-2 c =
    answer-none _ c.bytes.left _ c.bytes.invariant (words_from-none c.args.text.now c.bytes.at c.bytes.start c.bytes-test.false (grind (arith, common_steps)))
