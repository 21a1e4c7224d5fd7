use Rattle.std.specs.List.{flat_map}
use Rattle.pm_object.specs.Grammar.{header_words, section_words}
use Rattle.pm_object.proofs.Fitting.{fits_left, fits_right}
use Rattle.pm_object.proofs.spelling.words_of_object.Goals as goal

pub spell_header-requires : goal.spell_header-requires
spell_header-requires c = let object = c.args.object.now in fits_left (header_words object) (flat_map (section_words object) object.order) c.requires

pub spell_sections-requires : goal.spell_sections-requires
spell_sections-requires c = let object = c.args.object.now in fits_right (header_words object) (flat_map (section_words object) object.order) c.requires
