use Rattle.std.proofs.Common.{◌≡◌, ◌++◌, take}
use Rattle.pm_objtext.proofs.draft.append.Given as goal

abbrev pub invariant-loop-word : goal.invariant-loop-word
invariant-loop-word l = l.list ≡ l.fn.list ++ take l.word-index l.words
