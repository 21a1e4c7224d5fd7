use Rattle.std.proofs.Common.{◌≡◌, ◌++◌, take}
use Rattle.std.specs.List.{flat_map}
use Rattle.pm_objtext.specs.Printing.{lines_text}
use Rattle.pm_objtext.specs.Items.{section_items}
use Rattle.pm_objtext.proofs.printing.put_sections.Given as goal

abbrev pub invariant-loop-section : goal.invariant-loop-section
invariant-loop-section l = l.text.items ≡ l.fn.text.items ++ lines_text (flat_map (section_items l.o) (take l.section-index l.o.order))
