use Rattle.pm_top.proofs.WritingLemmas.{one_broken}
use Rattle.pm_top.proofs.writing.write_whole.Goals as goal

pub returns-in-Err : goal.returns-in-Err
returns-in-Err g c = one_broken g.O.Sink c.args.text.now c.args.out.now c.write_all.new.sink c.in-Err.ensures.short
