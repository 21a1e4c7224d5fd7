use Rattle.std.proofs.Common.{◌≡◌, ◌+◌, ◌-◌, ◌≤◌, length, drop}
use Rattle.pm_io.specs.Words.{word_texts}
use Rattle.pm_io.specs.Numbers.{greatest_number, numbers_in}
use Rattle.pm_topofile.proofs.ReadingLemmas.{with_front}
use Rattle.pm_topofile.proofs.reading.members_after.Given as goal

abbrev pub invariant-words : goal.invariant-words
invariant-words l = record {
  count : l.k ≡ length l.members.items + 2;
  within : length l.members.items ≤ 16;
  read : with_front l.members.items (numbers_in greatest_number (drop l.k (word_texts l.line))) ≡ numbers_in greatest_number (drop 2 (word_texts l.line));
}

abbrev pub decreases-words : goal.decreases-words
decreases-words l = 16 - length l.members.items
