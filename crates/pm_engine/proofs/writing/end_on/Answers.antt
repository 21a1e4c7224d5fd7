use Rattle.std.proofs.Common.{Option, subst, sym}
use Rattle.std.specs.Prelude.{flat_map, option_to_list}
use Rattle.pm_clock_tree.specs.declared.clock_tree.ClockEnd.{ClockEnd}
use Rattle.pm_drive.specs.Clocks.{end_line}
use Rattle.pm_engine.specs.Writes.{WritesOn}
use Rattle.pm_engine.proofs.WritesLemmas.{on-none}
use Rattle.pm_engine.proofs.writing.end_on.Goals as goal

pub returns-in-None : goal.returns-in-None
returns-in-None g c =
    let P : Option ClockEnd → Type 0 = λ end. WritesOn g.O.Sink (flat_map end_line (option_to_list end)) c.args.written c.args.written c.args.out.now c.args.out.now in
    subst P (sym c.in-None.is) (on-none g.O.Sink c.args.written c.args.out.now)
