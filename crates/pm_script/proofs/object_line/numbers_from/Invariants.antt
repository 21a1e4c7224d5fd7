-- The numbers that were read, before those of the words that are left, are all numbers. A word is parted from the next one,
-- so there are few of them.
use Rattle.std.proofs.Common.{◌≡◌, ◌+◌, ◌*◌, ◌≤◌, None, drop, length, map}
use Rattle.std.specs.Prelude.{IfSome}
use Rattle.pm_io.specs.Words.{text_between, words_from}
use Rattle.pm_script.specs.ObjectLine.{numbers_of}
use Rattle.pm_script.proofs.ObjectLineLemmas.{begun_count, joined}
use Rattle.pm_script.proofs.object_line.numbers_from.Given as goal

abbrev pub invariant-bytes : goal.invariant-bytes
invariant-bytes l = record {
  so_far : joined l.numbers (numbers_of (map (text_between l.line) (words_from l.start l.at (drop l.at l.text)))) ≡ numbers_of (map (text_between l.line) (words_from None l.from (drop l.from l.text)));
  begun : IfSome l.start (λ first. first ≤ l.at);
  room : 2 * length l.numbers + begun_count l.start ≤ l.at;
}
