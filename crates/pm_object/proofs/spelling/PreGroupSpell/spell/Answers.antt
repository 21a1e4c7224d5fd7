use Rattle.pm_object.specs.Grammar.{counted, preset_words}
use Rattle.pm_object.proofs.Fitting.{fits_rest}
use Rattle.pm_object.proofs.spelling.PreGroupSpell.spell.Goals as goal

pub spell_list-requires : goal.spell_list-requires
spell_list-requires c = fits_rest c.args.self.now.mask (counted preset_words c.args.self.now.recs) c.requires
