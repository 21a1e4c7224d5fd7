-- The numbers that were found, before those of the words that are left, are all numbers.
use Rattle.std.proofs.Common.{◌≡◌, ◌≤◌, drop, length}
use Rattle.std.specs.List.{list_all}
use Rattle.pm_io.specs.Lines.{is_plain}
use Rattle.pm_script.specs.ObjectLine.{numbers_of}
use Rattle.pm_script.specs.Short.{first_line, words_after}
use Rattle.pm_script.proofs.ObjectLineLemmas.{joined}
use Rattle.pm_script.proofs.short.find_numbers.Given as goal

abbrev pub invariant-words : goal.invariant-words
invariant-words l = record {
  count : length l.numbers ≡ l.k;
  within : l.at ≤ length (first_line l.text);
  plain : list_all is_plain (drop l.at (first_line l.text)) ≡ list_all is_plain (drop l.from (first_line l.text));
  so_far : joined l.numbers (numbers_of (words_after (first_line l.text) l.at)) ≡ numbers_of (words_after (first_line l.text) l.from);
}
