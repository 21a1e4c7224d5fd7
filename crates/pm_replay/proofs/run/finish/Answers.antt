use Rattle.pm_drive.specs.Clocks.{table_text}
use Rattle.pm_replay.proofs.RestLemmas.{Reports-cut}
use Rattle.pm_replay.proofs.run.finish.Goals as goal

pub returns-in-Err : goal.returns-in-Err
returns-in-Err g c = rw c.in-End.is (Reports-cut g.O.Sink (table_text c.args.engine.now.book c.args.engine.now.kept c.args.engine.now.clocks.tree) c.args.out.now c.write_closing.new.out c.in-Err.ensures)
