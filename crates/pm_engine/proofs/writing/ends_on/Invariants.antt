use Rattle.std.proofs.Common.{take}
use Rattle.std.specs.Prelude.{flat_map}
use Rattle.pm_engine.specs.Writes.{WritesOn}
use Rattle.pm_engine.proofs.ClocksLemmas.{end_text}
use Rattle.pm_engine.proofs.writing.ends_on.Given as goal

-- the closing lines of the clocks before the cursor are written
abbrev pub invariant-loop-def : goal.invariant-loop-def
invariant-loop-def g l = WritesOn g.O.Sink (flat_map (end_text l.clocks.tree) (take l.def-index l.def-items)) l.fn.written l.so_far l.fn.out l.out
