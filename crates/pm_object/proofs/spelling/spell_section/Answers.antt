use Rattle.pm_object.specs.Grammar.{inner_words, identifier}
use Rattle.pm_object.proofs.Fitting.{fits_rest}
use Rattle.pm_object.proofs.spelling.spell_section.Goals as goal

pub spell_body-requires : goal.spell_body-requires
spell_body-requires c = fits_rest (identifier c.args.section) (inner_words c.args.section c.args.object.now) c.requires
