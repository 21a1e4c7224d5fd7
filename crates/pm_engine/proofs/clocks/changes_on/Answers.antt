use Rattle.std.proofs.Common.{List, Option, ℕ, arith, map, subst}
use Rattle.pm_clock_tree.specs.declared.clock_tree.ClockChange.{ClockChange}
use Rattle.std.specs.Prelude.{option_to_list}
use Rattle.pm_drive.specs.Clocks.{clock_note}
use Rattle.pm_trace.specs.Notes.{notes_text}
use Rattle.pm_engine.specs.Writes.{WritesOn}
use Rattle.pm_engine.proofs.ClocksLemmas.{all_written, one_written, turn_text, turns_are}
use Rattle.pm_engine.proofs.WritesLemmas.{on-none}
use Rattle.pm_engine.proofs.clocks.changes_on.Goals as goal

pub loop-def-init : goal.loop-def-init
loop-def-init g c = on-none g.O.Sink c.args.written c.args.out.now

pub loop-def-preserved : goal.loop-def-preserved
loop-def-preserved g c =
    let P : Option ClockChange → Type 0 = λ change. WritesOn g.O.Sink (notes_text c.args.number (map clock_note (option_to_list change))) c.loop-def.so_far c.change_on-so_far.result c.loop-def.out c.change_on-so_far.new.out in
    one_written g.O.Sink (turn_text c.args.number c.args.clocks.now) c.all_clocks-def-items.result.now c.loop-def.def-index _ c.args.written c.loop-def.so_far c.change_on-so_far.result
    c.args.out.now c.loop-def.out c.change_on-so_far.new.out c.loop-def-test.true c.loop-def.invariant (subst P c.change.ensures c.change_on-so_far.ensures)

pub returns : goal.returns
returns g c =
    subst (λ (text : List ℕ). WritesOn g.O.Sink text c.args.written c.loop-def.so_far c.args.out.now c.loop-def.out) (turns_are c.args.number c.args.clocks.now)
    (all_written g.O.Sink (turn_text c.args.number c.args.clocks.now) c.all_clocks-def-items.result.now c.loop-def.def-index c.args.written c.loop-def.so_far c.args.out.now c.loop-def.out
    c.all_clocks-def-items.ensures (omega (arith, c.loop-def-test.false)) c.loop-def.invariant)
