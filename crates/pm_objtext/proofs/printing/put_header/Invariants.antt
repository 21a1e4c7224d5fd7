use Rattle.std.proofs.Common.{◌≡◌, ◌++◌, length}
use Rattle.pm_objtext.specs.Printing.{lines_text, header_items}
use Rattle.pm_objtext.proofs.printing.put_header.Given as goal

abbrev pub invariant-lines : goal.invariant-lines
invariant-lines l = l.text.items ++ lines_text (header_items l.left) ≡ l.fn.text.items ++ lines_text (header_items l.extra)

abbrev pub decreases-lines : goal.decreases-lines
decreases-lines l = length l.left
