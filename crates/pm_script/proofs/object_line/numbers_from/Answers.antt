-- What is known of the words that are left is known of all words, case by case of the byte.
use Rattle.std.proofs.Common.{◌≡◌, ◌+◌, None, Some, ap, arith, sym, ◌∙◌, length, []}
use Rattle.std.proofs.lemmas.Grind.{common_steps}
use Rattle.pm_io.proofs.WordsLemmas.{words_from-begin, words_from-between, words_from-end, words_from-last, words_from-none, words_from-on}
use Rattle.pm_script.proofs.ObjectLineLemmas.{begun_none, begun_some, begun_was, goes_on, last_ends, no_more, one_bad, room_begins, room_between, room_ends, room_on, word_ends}
use Rattle.pm_script.proofs.object_line.numbers_from.Goals.{in-None, in-None-3, in-Some+in_ok-number_of_word-in-Some, in-Some+else-is_blank-2, in-Some-start+in_ok-number_of_word, in_default}
use Rattle.pm_script.proofs.object_line.numbers_from.Goals as goal

pub bytes-preserved : goal.bytes-preserved
bytes-preserved c =
    let line = c.args.line.now in
    let text = c.args.text.now in
    let at = c.bytes.at in
    let start = c.bytes.start in
    let next = c.match-start.start in
    let old = c.bytes.numbers in
    let new = c.match-start.numbers in
    let so_far = c.bytes.invariant.so_far in
    let room = c.bytes.invariant.room in
    elim c.match-start.branch [
      | in-None w ↦
          let none : c.match-start.start ≡ None = w.start-is ∙ w.in-None.is in
          record {
            so_far = goes_on line text at start None next old new _ so_far
                (words_from-between text at start c.bytes-test.true w.in-None.is (grind (arith, common_steps))) w.numbers-is none;
            begun = begun_none next (at + 1) none;
            room = room_between old new at start next room w.numbers-is none;
          }
      | in-None-3 w ↦
          record {
            so_far = goes_on line text at start (Some at) next old new _ so_far
                (words_from-begin text at start c.bytes-test.true w.in-None.is (grind (arith, common_steps)) (grind (arith, common_steps)))
                w.numbers-is w.start-is;
            begun = begun_some next at (at + 1) w.start-is (omega arith);
            room = room_begins old new at at start next room w.in-None.is w.numbers-is w.start-is;
          }
      | in-Some+in_ok-number_of_word-in-Some w ↦
          let more = w.numbers-is ∙ w.push.ensures in
          record {
            so_far = word_ends line text at w.in-Some.first w.in_ok-number_of_word-in-Some.field-0 start next old new _ so_far
                (words_from-end text at start w.in-Some.first c.bytes-test.true w.in-Some.is (grind (arith, common_steps)))
                (sym w.number_of_word.ensures ∙ w.in_ok-number_of_word-in-Some.was) more w.start-is;
            begun = begun_none next (at + 1) w.start-is;
            room = room_ends old new w.in-Some.first w.in_ok-number_of_word-in-Some.field-0 at start next room w.in-Some.is more w.start-is;
          }
      | in-Some+else-is_blank-2 w ↦
          let on : c.match-start.start ≡ Some w.in-Some.first = w.start-is in
          record {
            so_far = goes_on line text at start (Some w.in-Some.first) next old new _ so_far
                (words_from-on text at start w.in-Some.first c.bytes-test.true w.in-Some.is (grind (arith, common_steps))) w.numbers-is on;
            begun = begun_some next w.in-Some.first (at + 1) on (omega (arith, begun_was start w.in-Some.first at c.bytes.invariant.begun w.in-Some.is));
            room = room_on old new w.in-Some.first at start next room w.in-Some.is w.numbers-is on;
          }
    ]

pub returns-in_err-number_of_word : goal.returns-in_err-number_of_word
returns-in_err-number_of_word c =
    let text = c.args.text.now in
    c.from_residual-in_err-number_of_word.ensures
    ∙ one_bad c.args.line.now c.bytes.numbers _ _ c.bytes.invariant.so_far (c.in-Some-start.first, length text) []
    (words_from-last text c.bytes.at c.bytes.start c.in-Some-start.first c.bytes-test.false (c.bytes.auto.at-end c.requires.within) c.in-Some-start.is)
    (sym c.number_of_word-in-Some-start.ensures ∙ c.in_err-number_of_word.was)

pub returns : goal.returns
returns c =
    let line = c.args.line.now in
    let text = c.args.text.now in
    let so_far = c.bytes.invariant.so_far in
    elim c.match-start-2.branch [
      | in-Some-start+in_ok-number_of_word w ↦
          last_ends line w.in-Some-start.first (length text) w.in_ok-number_of_word.field-0 c.bytes.numbers c.match-start-2.numbers _ _ so_far
          (words_from-last text c.bytes.at c.bytes.start w.in-Some-start.first c.bytes-test.false (c.bytes.auto.at-end c.requires.within) w.in-Some-start.is)
          (sym w.number_of_word-in-Some-start.ensures ∙ w.in_ok-number_of_word.was)
          (w.numbers-is ∙ w.push-in-Some-start.ensures)
      | in_default w ↦
          ap Some w.numbers-is
          ∙ no_more line c.bytes.numbers _ _ so_far (words_from-none text c.bytes.at c.bytes.start c.bytes-test.false w.in_default.is)
    ]
