use Rattle.std.proofs.Common.{refl, subst}
use Rattle.pm_reader.specs.Front.{ran}
use Rattle.pm_reader.proofs.ShownLemmas.{read_more}
use Rattle.pm_script.specs.Script.{stop_of}
use Rattle.pm_trace.proofs.ScriptsLemmas.{failure_by, line_is_read, read_by}
use Rattle.pm_trace.specs.Report.{Report, Reports, refusal}
use Rattle.pm_trace.specs.declared.faults.Fault.TheVariants.{Line}
use Rattle.pm_isolate.specs.Within.{end_report, end_text}
use Rattle.pm_isolate.proofs.ComparedLemmas.{rest_bad, rest_closed}
use Rattle.pm_trace.proofs.ReadsLemmas.{reads_bad, reads_closed}
use Rattle.pm_isolate.proofs.comparison.run_rest.Goals as goal

pub returns-in-Ok-clause-ran : goal.returns-in-Ok-clause-ran
returns-in-Ok-clause-ran g c = λ ahead front.
    let then = c.run_lines.new.worlds in
    let end = c.in-Ok.end in
    read_more g.I.Inputs.observable c.args.id _ _ _ _
    (λ s did. let ends = did.1 in (did.0, subst (λ (r : Report). Reports g.O.Sink r c.args.out.now c.finish.new.out c.finish.result) (rest_closed c.args.m (ran s) end.stop c.args.worlds.now then end.count ends.0 ends.1 ends.2) c.finish.ensures))
    (c.in-Ok.ensures.ran ahead front)

pub returns-in-Ok-clause-fault : goal.returns-in-Ok-clause-fault
returns-in-Ok-clause-fault g c = λ ahead front is.
    let end = c.in-Ok.end in
    let reports = c.finish.ensures in
    c.in-Ok.ensures.fault ahead front (failure_by end.stop c.in-Ok.ensures.ends (read_by g.O.Sink (end_report (stop_of end.stop) c.run_lines.new.worlds end.count) reports.cut c.args.out.now c.finish.new.out c.finish.result reports.left reports.ends is))

pub returns-in-Err-Bad-clause-ran : goal.returns-in-Err-Bad-clause-ran
returns-in-Err-Bad-clause-ran g c = λ ahead front.
    let n = c.in-Err-Bad.number in
    let cause = c.in-Err-Bad.cause in
    read_more g.I.Inputs.observable c.args.id _ _ _ _
    (λ s did. let ends = did.1 in (did.0, subst (λ (r : Report). Reports g.O.Sink r c.args.out.now c.refuse.new.out c.refuse.result) (rest_bad c.args.m (ran s) c.args.worlds.now n cause ends.0 ends.1) c.refuse.ensures))
    ((rw c.in-Err-Bad.field-0-is at c.in-Err-Bad.ensures.ran) ahead front)

pub returns-in-Err-Bad-clause-fault : goal.returns-in-Err-Bad-clause-fault
returns-in-Err-Bad-clause-fault g c = λ ahead front is.
    let reports = c.refuse.ensures in
    absurd (line_is_read c.in-Err-Bad.number c.in-Err-Bad.cause (read_by g.O.Sink (refusal (Line c.in-Err-Bad.number c.in-Err-Bad.cause)) reports.cut c.args.out.now c.refuse.new.out c.refuse.result reports.left reports.ends is))

pub returns-in-Ok-clause-reads : goal.returns-in-Ok-clause-reads
returns-in-Ok-clause-reads g c = λ ahead front. reads_closed g.O.Sink c.in-Ok.end.stop (end_text c.run_lines.new.worlds c.in-Ok.end.count) c.args.out.now c.finish.new.out c.finish.result c.args.id _ (g.I.Inputs.state c.run_lines.new.inputs) c.finish.ensures (c.in-Ok.ensures.reads ahead front)

pub returns-in-Err-Bad-clause-reads : goal.returns-in-Err-Bad-clause-reads
returns-in-Err-Bad-clause-reads g c = λ ahead front. reads_bad g.O.Sink (Line c.in-Err-Bad.number c.in-Err-Bad.cause) c.args.out.now c.refuse.new.out c.refuse.result c.args.id _ (g.I.Inputs.state c.run_lines.new.inputs) refl c.refuse.ensures ((rw c.in-Err-Bad.field-0-is at c.in-Err-Bad.ensures.reads) ahead front)

-- who follows the lines never fails
pub unreachable-requires : goal.unreachable-requires
unreachable-requires g c = ((rw c.in-Err-Broken.field-0-is at c.in-Err-Broken.ensures.ran) c.requires.front.0 c.requires.front.1).held.holds.1
