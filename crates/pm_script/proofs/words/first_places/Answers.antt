-- The loop leaves where no further word is found, or with nine words.
use Rattle.std.proofs.Common.{◌≡◌, ◌∙◌, ◌≤◌, arith, drop, length, sym, true}
use Rattle.std.proofs.lemmas.Grind.{common_steps}
use Rattle.std.specs.List.{list_all}
use Rattle.pm_io.specs.Lines.{is_plain}
use Rattle.pm_script.proofs.WordsLemmas.{nine, no_more}
use Rattle.pm_script.proofs.words.first_places.Goals as goal

pub returns-in_default-clause-places : goal.returns-in_default-clause-places
returns-in_default-clause-places c is =
    let rest : list_all is_plain (drop c.words.at c.args.text.now) ≡ true = sym c.is_plain_from.ensures ∙ is in
    let few : length c.words.places.items ≤ 9 = grind (arith, common_steps) in
    no_more c.words.places.items _ _ (c.words.invariant.so_far (sym c.words.invariant.plain ∙ rest)) (c.in_default.ensures.word rest) few

pub returns-clause-places : goal.returns-clause-places
returns-clause-places c is =
    let rest : list_all is_plain (drop c.words.at c.args.text.now) ≡ true = sym c.is_plain_from-2.ensures ∙ is in
    let full : length c.words.places.items ≡ 9 = grind (arith, common_steps) in
    nine c.words.places.items _ _ (c.words.invariant.so_far (sym c.words.invariant.plain ∙ rest)) full
