use Rattle.std.proofs.Common.{arith, ◌≡◌, ◌∙◌, sym, Some, None}
use Rattle.std.proofs.lemmas.Bool.Decides.{nat_tests}
use Rattle.std.proofs.lemmas.Grind.{common_steps}
use Rattle.pm_io.specs.Words.{word_texts}
use Rattle.pm_objtext.specs.Reading.{number}
use Rattle.pm_objtext.proofs.ReadingLemmas.{numbers_more, numbers_refused, numbers_many, numbers_end}
use Rattle.pm_objtext.proofs.reading.numbers_after.Goals as goal

pub returns-then-is_full : goal.returns-then-is_full
returns-then-is_full c =
    let many : c.words.k ≡ 17 = grind (arith, nat_tests) in
    sym (numbers_many (word_texts c.args.line.now) c.words.k c.in-Some.word.now (sym c.in-Some.ensures) many)

pub returns-in_err-number_at : goal.returns-in_err-number_at
returns-in_err-number_at c =
    let read : number c.in-Some.word.now ≡ None = sym c.number_at.ensures ∙ c.in_err-number_at.was in
    rw c.from_residual.ensures (sym (numbers_refused (word_texts c.args.line.now) c.words.k c.words.numbers.items c.in-Some.word.now c.words.invariant.read (sym c.in-Some.ensures) read))

pub words-preserved : goal.words-preserved
words-preserved c =
    let read : number c.in-Some.word.now ≡ Some c.in_ok-number_at.field-0 = sym c.number_at.ensures ∙ c.in_ok-number_at.was in
    record {
      count = grind (arith, common_steps);
      within = grind (arith, nat_tests, common_steps);
      read = rw c.push.ensures.items (numbers_more (word_texts c.args.line.now) c.words.k c.words.numbers.items _ c.words.invariant.read c.in-Some.word.now c.in_ok-number_at.field-0 (sym c.in-Some.ensures) read);
    }

pub returns : goal.returns
returns c = sym (numbers_end (word_texts c.args.line.now) c.words.k c.words.numbers.items c.words.invariant.read (sym c.in_default.ensures) c.words.invariant.count c.words.invariant.within)
