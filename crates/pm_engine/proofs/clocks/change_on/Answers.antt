use Rattle.std.proofs.Common.{Option, map, subst, sym}
use Rattle.pm_clock_tree.specs.declared.clock_tree.ClockChange.{ClockChange}
use Rattle.std.specs.Prelude.{option_to_list}
use Rattle.pm_drive.specs.Clocks.{clock_note}
use Rattle.pm_trace.specs.Notes.{notes_text}
use Rattle.pm_engine.specs.Writes.{WritesOn}
use Rattle.pm_engine.proofs.WritesLemmas.{on-none}
use Rattle.pm_engine.proofs.clocks.change_on.Goals as goal

pub returns-in-None : goal.returns-in-None
returns-in-None g c =
    let P : Option ClockChange → Type 0 = λ change. WritesOn g.O.Sink (notes_text c.args.number (map clock_note (option_to_list change))) c.args.written c.args.written c.args.out.now c.args.out.now in
    subst P (sym c.in-None.is) (on-none g.O.Sink c.args.written c.args.out.now)
