use Rattle.std.proofs.Common.{List, Option, ℕ, arith, subst}
use Rattle.std.specs.Prelude.{flat_map, option_to_list}
use Rattle.pm_clock_tree.specs.declared.clock_tree.ClockEnd.{ClockEnd}
use Rattle.pm_drive.specs.Clocks.{end_line}
use Rattle.pm_engine.specs.Writes.{WritesOn}
use Rattle.pm_engine.proofs.ClocksLemmas.{all_written, end_text, ends_are, one_written}
use Rattle.pm_engine.proofs.WritesLemmas.{on-none}
use Rattle.pm_engine.proofs.writing.ends_on.Goals as goal

pub loop-def-init : goal.loop-def-init
loop-def-init g c = on-none g.O.Sink c.args.written c.args.out.now

pub loop-def-preserved : goal.loop-def-preserved
loop-def-preserved g c =
    let P : Option ClockEnd → Type 0 = λ end. WritesOn g.O.Sink (flat_map end_line (option_to_list end)) c.loop-def.so_far c.end_on-so_far.result c.loop-def.out c.end_on-so_far.new.out in
    one_written g.O.Sink (end_text c.args.clocks.now.tree) c.all_clocks-def-items.result.now c.loop-def.def-index _ c.args.written c.loop-def.so_far c.end_on-so_far.result
    c.args.out.now c.loop-def.out c.end_on-so_far.new.out c.loop-def-test.true c.loop-def.invariant (subst P c.end.ensures c.end_on-so_far.ensures)

pub returns : goal.returns
returns g c =
    subst (λ (text : List ℕ). WritesOn g.O.Sink text c.args.written c.loop-def.so_far c.args.out.now c.loop-def.out) (ends_are c.args.clocks.now.tree)
    (all_written g.O.Sink (end_text c.args.clocks.now.tree) c.all_clocks-def-items.result.now c.loop-def.def-index c.args.written c.loop-def.so_far c.args.out.now c.loop-def.out
    c.all_clocks-def-items.ensures (omega (arith, c.loop-def-test.false)) c.loop-def.invariant)
