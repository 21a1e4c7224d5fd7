use Rattle.std.specs.List.{concat}
use Rattle.std.proofs.lemmas.Result.{err_from_is_err_and}
use Rattle.pm_isolate.specs.Differences.{steps_line}
use Rattle.pm_isolate.specs.Within.{mark_lines}
use Rattle.pm_isolate.proofs.ReportLemmas.{Breaks-first, Writes-behind}
use Rattle.pm_isolate.proofs.writing.write_end.Goals as goal

pub returns-in_err-write_marks : goal.returns-in_err-write_marks
returns-in_err-write_marks g c =
    let p = err_from_is_err_and c.from_residual.result c.from_residual.ensures.1 in
    rw p.1 (Breaks-first g.O.Sink (concat (mark_lines c.args.worlds.now)) (steps_line c.args.count) c.args.out.now c.write_marks.new.out c.in_err-write_marks.ensures)

pub returns : goal.returns
returns g c = Writes-behind g.O.Sink (concat (mark_lines c.args.worlds.now)) (steps_line c.args.count) c.args.out.now c.write_marks.new.out c.write_words.new.out c.write_words.result c.in_ok-write_marks.ensures (rw c.name.ensures at c.write_words.ensures)
