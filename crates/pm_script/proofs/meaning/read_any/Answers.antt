use Rattle.std.proofs.Common.{None, sym, ◌∙◌, ap}
use Rattle.std.specs.Prelude.{take}
use Rattle.pm_io.specs.Words.{words_from}
use Rattle.pm_script.proofs.WordsLemmas.{words_is}
use Rattle.pm_script.proofs.meaning.read_any.Goals as goal

pub of-requires : goal.of-requires
of-requires c =
    c.first_places.ensures.places c.if-not-first_places.false
    ∙ ap (λ text. take 9 (words_from None 0 text)) c.without_return-text.ensures
    ∙ ap (take 9) (sym (words_is c.args.line.now))
