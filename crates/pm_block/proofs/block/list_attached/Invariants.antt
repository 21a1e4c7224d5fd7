use Rattle.std.proofs.Common.{◌≡◌, map, take}
use Rattle.pm_block.specs.Pieces.{attached_in}
use Rattle.pm_block.proofs.block.list_attached.Given as goal

abbrev pub invariant-loop-piece : goal.invariant-loop-piece
invariant-loop-piece l = l.attached ≡ map attached_in (take l.piece-index l.pieces)
