use Rattle.std.proofs.Common.{◌≡◌, ◌+◌, ◌-◌, ◌≤◌, length, drop}
use Rattle.pm_io.specs.Words.{word_texts}
use Rattle.pm_io.specs.Numbers.{greatest_number, numbers_in}
use Rattle.pm_objtext.proofs.ReadingLemmas.{with_front}
use Rattle.pm_objtext.proofs.reading.numbers_after.Given as goal

abbrev pub invariant-words : goal.invariant-words
invariant-words l = record {
  count : l.k ≡ length l.numbers.items + 1;
  within : length l.numbers.items ≤ 16;
  read : with_front l.numbers.items (numbers_in greatest_number (drop l.k (word_texts l.line))) ≡ numbers_in greatest_number (drop 1 (word_texts l.line));
}

abbrev pub decreases-words : goal.decreases-words
decreases-words l = 16 - length l.numbers.items
