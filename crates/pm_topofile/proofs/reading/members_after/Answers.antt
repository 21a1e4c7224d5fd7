use Rattle.std.proofs.Common.{arith, ◌≡◌, ◌<◌, ◌∙◌, sym, Some, None, length}
use Rattle.std.proofs.lemmas.Bool.Decides.{nat_tests}
use Rattle.std.proofs.lemmas.Grind.{common_steps}
use Rattle.std.proofs.lemmas.Option.{slice_get_within}
use Rattle.pm_io.specs.Words.{word_texts}
use Rattle.pm_topofile.specs.Reading.{number}
use Rattle.pm_io.specs.Numbers.{greatest_number}
use Rattle.pm_topofile.proofs.ReadingLemmas.{numbers_more, numbers_bad, numbers_end, past_all}
use Rattle.pm_topofile.proofs.reading.members_after.Goals as goal

pub returns-in_err-number_in : goal.returns-in_err-number_in
returns-in_err-number_in c =
    let read : number greatest_number c.in-Some.word.now ≡ None = sym c.number_in.ensures ∙ c.in_err-number_in.was in
    rw c.from_residual.ensures (sym (numbers_bad (word_texts c.args.line.now) c.words.k c.words.members.items _ c.words.invariant.read c.in-Some.word.now (sym c.in-Some.ensures) read))

pub push-requires : goal.push-requires
push-requires c =
    let within : c.words.k < length (word_texts c.args.line.now) = slice_get_within (word_texts c.args.line.now) c.words.k c.in-Some.word.now (sym c.in-Some.ensures) in
    omega (arith, c.requires, c.words.invariant.count)

pub words-smaller : goal.words-smaller
words-smaller c =
    let within : c.words.k < length (word_texts c.args.line.now) = slice_get_within (word_texts c.args.line.now) c.words.k c.in-Some.word.now (sym c.in-Some.ensures) in
    grind (arith, nat_tests, common_steps)

pub words-preserved : goal.words-preserved
words-preserved c =
    let within : c.words.k < length (word_texts c.args.line.now) = slice_get_within (word_texts c.args.line.now) c.words.k c.in-Some.word.now (sym c.in-Some.ensures) in
    let read : number greatest_number c.in-Some.word.now ≡ Some c.in_ok-number_in.field-0 = sym c.number_in.ensures ∙ c.in_ok-number_in.was in
    record {
      count = grind (arith, common_steps);
      within = grind (arith, nat_tests, common_steps);
      read = rw c.push.ensures.items (numbers_more (word_texts c.args.line.now) c.words.k c.words.members.items _ c.words.invariant.read c.in-Some.word.now c.in_ok-number_in.field-0 (sym c.in-Some.ensures) read);
    }

pub returns : goal.returns
returns c = sym (numbers_end (word_texts c.args.line.now) c.words.k c.words.members.items _ c.words.invariant.read (past_all (word_texts c.args.line.now) c.words.k (sym c.in_default.ensures)))
