use Rattle.std.proofs.Common.{get_or, length, ◌<◌, sym, subst}
use Rattle.pm_object.specs.declared.object.Section.TheVariants.{Masters}
use Rattle.pm_object.specs.Grammar.{section_words}
use Rattle.pm_object.proofs.Fitting.{Fits32, each_fits}
use Rattle.pm_object.proofs.spelling.spell_sections.Goals as goal

pub spell_section-requires : goal.spell_section-requires
spell_section-requires c =
    let object = c.args.object.now in
    let items = c.as_slice-section-items in
    let within = subst (λ l. c.loop-section.section-index < length l) items.ensures c.loop-section-test.true in
    subst (λ l. Fits32 (section_words object (get_or l c.loop-section.section-index Masters))) (sym items.ensures) (each_fits (section_words object) object.order c.loop-section.section-index Masters within c.requires)
