use Rattle.std.proofs.Common.{◌≡◌, ◌++◌, take}
use Rattle.std.specs.List.{AllByRecursion, flat_map}
use Rattle.pm_topofile.specs.Printing.{IsSmall, word_text}
use Rattle.pm_topofile.proofs.printing.put_words.Given as goal

abbrev pub invariant-loop-word : goal.invariant-loop-word
invariant-loop-word l = record {
  text : l.text.items ≡ l.fn.text.items ++ flat_map word_text (take l.word-index l.words);
  small : AllByRecursion IsSmall (take l.word-index l.words);
}
