use Rattle.std.proofs.Common.{◌≡◌, ◌+◌, drop, length}
use Rattle.pm_io.specs.Words.{word_texts}
use Rattle.pm_script.specs.Forms.{arguments_of}
use Rattle.pm_script.proofs.ArgumentsLemmas.{with_front}
use Rattle.pm_script.proofs.words.LineWords.arguments.Given as goal

-- the arguments that were read, with those that are left, are all arguments
abbrev pub invariant-widths : goal.invariant-widths
invariant-widths l = record {
  count : length l.arguments.items ≡ l.place;
  read : with_front l.arguments.items (arguments_of (drop l.place l.widths) (drop (l.place + 1) (word_texts l.self))) ≡ arguments_of l.widths (drop 1 (word_texts l.self));
}
