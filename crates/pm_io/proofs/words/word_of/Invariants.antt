use Rattle.std.proofs.Common.{◌≡◌, None, drop}
use Rattle.std.specs.Prelude.{slice_get}
use Rattle.pm_io.specs.Words.{words_from}
use Rattle.pm_io.proofs.words.word_of.Given as goal

-- the answer for what is left of the text is the answer for all of it
abbrev pub invariant-bytes : goal.invariant-bytes
invariant-bytes l = slice_get (words_from l.start l.at (drop l.at l.text)) l.left ≡ slice_get (words_from None 0 l.text) l.k
