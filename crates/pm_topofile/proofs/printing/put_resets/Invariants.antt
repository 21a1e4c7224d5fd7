use Rattle.std.proofs.Common.{◌≡◌, ◌++◌, take}
use Rattle.std.specs.List.{AllByRecursion, flat_map}
use Rattle.pm_topofile.specs.Printing.{AreSmall, reset_text, reset_words}
use Rattle.pm_topofile.proofs.printing.put_resets.Given as goal

abbrev pub invariant-loop-line : goal.invariant-loop-line
invariant-loop-line l = record {
  text : l.text.items ≡ l.fn.text.items ++ flat_map reset_text (take l.line-index l.lines);
  small : AllByRecursion (λ e. AreSmall (reset_words e)) (take l.line-index l.lines);
}
