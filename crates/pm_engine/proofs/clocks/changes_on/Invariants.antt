use Rattle.std.proofs.Common.{take}
use Rattle.std.specs.Prelude.{flat_map}
use Rattle.pm_engine.specs.Writes.{WritesOn}
use Rattle.pm_engine.proofs.ClocksLemmas.{turn_text}
use Rattle.pm_engine.proofs.clocks.changes_on.Given as goal

-- the changes of the clocks before the cursor are written
abbrev pub invariant-loop-def : goal.invariant-loop-def
invariant-loop-def g l =
    WritesOn g.O.Sink (flat_map (turn_text l.number l.clocks) (take l.def-index l.def-items)) l.fn.written l.so_far l.fn.out l.out
