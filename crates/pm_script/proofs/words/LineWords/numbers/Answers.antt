-- The words after the first one stand from its end on.
use Rattle.std.proofs.Common.{◌≡◌, ◌∙◌, ℕ, List, None, Some, ap, arith, drop, length, map, sym}
use Rattle.std.specs.Prelude.{slice_get}
use Rattle.pm_io.specs.Lines.{without_return}
use Rattle.pm_io.specs.Words.{text_between, words, words_from}
use Rattle.pm_script.specs.ObjectLine.{numbers_of}
use Rattle.pm_script.proofs.ObjectLineLemmas.{texts_after}
use Rattle.pm_script.proofs.words.LineWords.numbers.Goals as goal

pub numbers_from-requires-clause-within : goal.numbers_from-requires-clause-within
numbers_from-requires-clause-within c =
    let is : slice_get (words c.args.self.now) 0 ≡ Some (c.in-Some.field-0-0, c.in-Some.end) = sym c.place_at.ensures ∙ c.in-Some.is in
    let line : c.self.inside.line.now ≡ c.args.self.now = cc in
    let text : c.without_return.result.now ≡ without_return c.args.self.now = c.without_return.ensures ∙ ap without_return line in
    let long : length c.without_return.result.now ≡ length (without_return c.args.self.now) = ap length text in
    omega (arith, long, (texts_after c.args.self.now (c.in-Some.field-0-0, c.in-Some.end) is).0)

pub returns-in-Some : goal.returns-in-Some
returns-in-Some c =
    let end = c.in-Some.end in
    let is : slice_get (words c.args.self.now) 0 ≡ Some (c.in-Some.field-0-0, c.in-Some.end) = sym c.place_at.ensures ∙ c.in-Some.is in
    let line : c.self.inside.line.now ≡ c.args.self.now = cc in
    let text : c.without_return.result.now ≡ without_return c.args.self.now = c.without_return.ensures ∙ ap without_return line in
    c.numbers_from.ensures
    ∙ ap (λ (l : List ℕ). numbers_of (map (text_between l) (words_from None end (drop end c.without_return.result.now)))) line
    ∙ ap (λ (t : List ℕ). numbers_of (map (text_between c.args.self.now) (words_from None end (drop end t)))) text
    ∙ ap numbers_of (texts_after c.args.self.now (c.in-Some.field-0-0, c.in-Some.end) is).1
