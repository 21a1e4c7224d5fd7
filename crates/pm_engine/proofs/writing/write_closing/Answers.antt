use Rattle.std.proofs.Common.{Ok, ◌++◌, subst}
use Rattle.pm_clock_tree.specs.Told.{Clocked}
use Rattle.pm_trace.specs.Closing.{closing_text}
use Rattle.pm_drive.specs.Clocks.{ends_text}
use Rattle.pm_engine.specs.Writes.{Writes}
use Rattle.pm_engine.proofs.WritesLemmas.{on-both}
use Rattle.pm_engine.proofs.writing.write_closing.Goals as goal

pub returns : goal.returns
returns g c =
    let book = c.args.engine.now.book in
    let kept = c.args.engine.now.kept in
    let P : Clocked → Type 0 = λ it. Writes g.O.Sink (closing_text book kept ++ ends_text it.tree) c.args.out.now c.ends_on.new.out c.ends_on.result in
    subst P c.clocks.ensures
    (on-both g.O.Sink (closing_text book kept) (ends_text c.clocks.result.now.tree) (Ok tt) c.write_units-units.result c.ends_on.result
    c.args.out.now c.write_units-units.new.out c.ends_on.new.out c.write_units-units.ensures c.ends_on.ensures)
