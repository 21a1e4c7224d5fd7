use Rattle.std.proofs.Common.{◌≡◌, ◌++◌, take}
use Rattle.std.specs.List.{flat_map}
use Rattle.pm_object.specs.Grammar.{section_words}
use Rattle.pm_object.proofs.spelling.spell_sections.Given as goal

abbrev pub invariant-loop-section : goal.invariant-loop-section
invariant-loop-section l = l.out ≡ l.initial.out ++ flat_map (section_words l.object) (take l.section-index l.object.order)
