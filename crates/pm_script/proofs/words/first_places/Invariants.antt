use Rattle.std.proofs.Common.{◌≡◌, ◌≤◌, ◌++◌, None, drop, length, true}
use Rattle.std.specs.List.{list_all}
use Rattle.pm_io.specs.Lines.{is_plain}
use Rattle.pm_io.specs.Words.{words_from}
use Rattle.pm_script.proofs.words.first_places.Given as goal

-- the words that were found, with those that are left, are all words of a plain text
abbrev pub invariant-words : goal.invariant-words
invariant-words l = record {
  count : length l.places.items ≡ l.counter;
  within : l.at ≤ length l.text;
  plain : list_all is_plain (drop l.at l.text) ≡ list_all is_plain l.text;
  so_far : list_all is_plain l.text ≡ true → l.places.items ++ words_from None l.at (drop l.at l.text) ≡ words_from None 0 l.text;
}
