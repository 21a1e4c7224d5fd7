-- The bytes that were passed go on with the word.
use Rattle.std.proofs.Common.{◌≡◌, ℕ, Some, drop}
use Rattle.std.specs.List.{list_all}
use Rattle.pm_io.specs.Lines.{is_plain}
use Rattle.pm_io.specs.Words.{words_from}
use Rattle.pm_script.proofs.words.word_end.Given as goal

abbrev pub invariant-bytes : goal.invariant-bytes
invariant-bytes l = record {
  plain : list_all is_plain (drop l.at l.text) ≡ list_all is_plain (drop l.from l.text);
  word : (start : ℕ) → words_from (Some start) l.at (drop l.at l.text) ≡ words_from (Some start) l.from (drop l.from l.text);
}
