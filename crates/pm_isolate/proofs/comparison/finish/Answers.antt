use Rattle.pm_isolate.specs.Within.{end_text}
use Rattle.pm_isolate.proofs.ReportLemmas.{Reports-cut}
use Rattle.pm_isolate.proofs.comparison.finish.Goals as goal

pub returns-in-Err : goal.returns-in-Err
returns-in-Err g c = rw c.in-End.is (Reports-cut g.O.Sink (end_text c.args.worlds.now c.args.count) c.args.out.now c.write_end.new.out c.in-Err.ensures)
