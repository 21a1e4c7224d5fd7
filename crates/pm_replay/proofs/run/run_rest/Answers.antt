use Rattle.std.proofs.Common.{refl}
use Rattle.pm_board.specs.Standing.{standing}
use Rattle.pm_reader.specs.Front.{ran}
use Rattle.pm_reader.proofs.ShownLemmas.{read_more}
use Rattle.pm_script.specs.Script.{stop_of}
use Rattle.pm_trace.proofs.ScriptsLemmas.{failure_by, line_is_read, read_by}
use Rattle.pm_trace.specs.Report.{refusal}
use Rattle.pm_trace.specs.declared.faults.Fault.TheVariants.{Line}
use Rattle.pm_replay.specs.Within.{closing_report}
use Rattle.pm_replay.proofs.RestLemmas.{RanRest-bad, RanRest-broken, RanRest-closed}
use Rattle.pm_trace.proofs.ReadsLemmas.{reads_bad, reads_closed}
use Rattle.pm_drive.specs.Clocks.{table_text}
use Rattle.pm_replay.proofs.run.run_rest.Goals as goal

pub returns-in-Ok-clause-ran : goal.returns-in-Ok-clause-ran
returns-in-Ok-clause-ran g c = λ ahead front cs is told.
    let then = c.run_lines.new.engine in
    let board = standing g.H.Responder g.T.Handler c.args.board.now.modules.now c.args.board.now.tasks in
    let left = standing g.H.Responder g.T.Handler c.args.board.now.modules.now c.run_lines.new.board.tasks in
    read_more g.I.Inputs.observable c.args.id _ _ _ _
    (λ s did. (did.0, RanRest-closed g.O.Sink g.D.Device cs 1 (ran s) c.in-Ok.end.stop c.args.engine.now then c.args.out.now c.run_lines.new.out c.finish.new.out c.args.dev.now c.run_lines.new.dev board left c.finish.result c.in-Ok.end.count did.1 c.finish.ensures))
    (c.in-Ok.ensures.ran ahead front cs is told)

pub returns-in-Ok-clause-fault : goal.returns-in-Ok-clause-fault
returns-in-Ok-clause-fault g c = λ ahead front is.
    let then = c.run_lines.new.engine in
    let reports = c.finish.ensures in
    c.in-Ok.ensures.fault ahead front (failure_by c.in-Ok.end.stop c.in-Ok.ensures.ends (read_by g.O.Sink (closing_report (stop_of c.in-Ok.end.stop) then.book then.kept then.clocks.tree) reports.cut c.run_lines.new.out c.finish.new.out c.finish.result reports.left reports.ends is))

pub returns-in-Err-Bad-clause-ran : goal.returns-in-Err-Bad-clause-ran
returns-in-Err-Bad-clause-ran g c = λ ahead front cs is told.
    let board = standing g.H.Responder g.T.Handler c.args.board.now.modules.now c.args.board.now.tasks in
    let left = standing g.H.Responder g.T.Handler c.args.board.now.modules.now c.run_lines.new.board.tasks in
    read_more g.I.Inputs.observable c.args.id _ _ _ _
    (λ s did. (did.0, RanRest-bad g.O.Sink g.D.Device cs 1 c.in-Err-Bad.number c.in-Err-Bad.cause (ran s) c.args.engine.now c.run_lines.new.engine c.args.out.now c.run_lines.new.out c.refuse.new.out c.args.dev.now c.run_lines.new.dev board left c.refuse.result did.1 c.refuse.ensures))
    ((rw c.in-Err-Bad.field-0-is at c.in-Err-Bad.ensures.ran) ahead front cs is told)

pub returns-in-Err-Bad-clause-fault : goal.returns-in-Err-Bad-clause-fault
returns-in-Err-Bad-clause-fault g c = λ ahead front is.
    let reports = c.refuse.ensures in
    absurd (line_is_read c.in-Err-Bad.number c.in-Err-Bad.cause (read_by g.O.Sink (refusal (Line c.in-Err-Bad.number c.in-Err-Bad.cause)) reports.cut c.run_lines.new.out c.refuse.new.out c.refuse.result reports.left reports.ends is))

pub returns-in-Err-Broken-clause-ran : goal.returns-in-Err-Broken-clause-ran
returns-in-Err-Broken-clause-ran g c = λ ahead front cs is told.
    let board = standing g.H.Responder g.T.Handler c.args.board.now.modules.now c.args.board.now.tasks in
    let left = standing g.H.Responder g.T.Handler c.args.board.now.modules.now c.run_lines.new.board.tasks in
    read_more g.I.Inputs.observable c.args.id _ _ _ _
    (λ s did. (did.0, RanRest-broken g.O.Sink g.D.Device cs 1 (ran s) c.args.engine.now c.run_lines.new.engine c.args.out.now c.run_lines.new.out c.args.dev.now c.run_lines.new.dev board left did.1))
    ((rw c.in-Err-Broken.field-0-is at c.in-Err-Broken.ensures.ran) ahead front cs is told)

pub returns-in-Ok-clause-reads : goal.returns-in-Ok-clause-reads
returns-in-Ok-clause-reads g c = λ ahead front. reads_closed g.O.Sink c.in-Ok.end.stop (table_text c.run_lines.new.engine.book c.run_lines.new.engine.kept c.run_lines.new.engine.clocks.tree) c.run_lines.new.out c.finish.new.out c.finish.result c.args.id _ (g.I.Inputs.state c.run_lines.new.inputs) c.finish.ensures (c.in-Ok.ensures.reads ahead front)

pub returns-in-Err-Bad-clause-reads : goal.returns-in-Err-Bad-clause-reads
returns-in-Err-Bad-clause-reads g c = λ ahead front. reads_bad g.O.Sink (Line c.in-Err-Bad.number c.in-Err-Bad.cause) c.run_lines.new.out c.refuse.new.out c.refuse.result c.args.id _ (g.I.Inputs.state c.run_lines.new.inputs) refl c.refuse.ensures ((rw c.in-Err-Bad.field-0-is at c.in-Err-Bad.ensures.reads) ahead front)

pub returns-in-Err-Broken-clause-reads : goal.returns-in-Err-Broken-clause-reads
returns-in-Err-Broken-clause-reads g c = λ ahead front. (rw c.in-Err-Broken.field-0-is at c.in-Err-Broken.ensures.reads) ahead front
