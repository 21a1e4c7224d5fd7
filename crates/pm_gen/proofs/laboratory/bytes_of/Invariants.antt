use Rattle.std.proofs.Common.{◌≡◌, take}
use Rattle.pm_object.specs.Grammar.{little_endian}
use Rattle.pm_gen.proofs.laboratory.bytes_of.Given as goal

abbrev pub invariant-loop-word : goal.invariant-loop-word
invariant-loop-word l = l.bytes.items ≡ little_endian (take l.word-index l.words)
