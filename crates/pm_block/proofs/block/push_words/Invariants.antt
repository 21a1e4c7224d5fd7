use Rattle.std.proofs.Common.{◌≡◌, ◌++◌, take}
use Rattle.pm_block.proofs.block.push_words.Given as goal

abbrev pub invariant-loop-k : goal.invariant-loop-k
invariant-loop-k l = l.list ≡ l.fn.list ++ take l.k l.words
