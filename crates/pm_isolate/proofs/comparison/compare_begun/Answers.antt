use Rattle.std.proofs.Common.{List, inl, inr, subst, sym}
use Rattle.pm_object.specs.declared.attached.Attached.{Attached}
use Rattle.pm_reach.specs.Membership.{IsReach}
use Rattle.pm_reader.specs.Front.{ran}
use Rattle.pm_reader.proofs.ShownLemmas.{read_more}
use Rattle.pm_run.specs.Run.{setup}
use Rattle.pm_state.specs.State.{objects_in}
use Rattle.pm_trace.specs.Report.{Report, Reports}
use Rattle.pm_trace.proofs.ReadsLemmas.{reads_starved}
use Rattle.pm_trace.proofs.ScriptsLemmas.{memory_exit}
use Rattle.pm_isolate.specs.Differences.{isolate_report}
use Rattle.pm_isolate.proofs.ComparedLemmas.{report_is}
use Rattle.pm_isolate.proofs.comparison.compare_begun.Goals as goal

-- memory ran out
pub returns-in-Err-clause-ran : goal.returns-in-Err-clause-ran
returns-in-Err-clause-ran g c = inl c.refuse.ensures

pub returns-in-Err-clause-fault : goal.returns-in-Err-clause-fault
returns-in-Err-clause-fault g c = λ is. absurd (memory_exit g.O.Sink c.args.out.now c.refuse.new.out c.refuse.result c.refuse.ensures is)

pub returns-in-Err-clause-reads : goal.returns-in-Err-clause-reads
returns-in-Err-clause-reads g c = reads_starved g.O.Sink c.args.out.now c.refuse.new.out c.refuse.result c.args.id (g.I.Inputs.state c.args.inputs.now) (g.I.Inputs.state c.prepare.new.inputs) c.refuse.ensures c.in-Err.ensures.reads

-- both runs of the script, with what it attaches
pub returns-in-Ok-clause-ran : goal.returns-in-Ok-clause-ran
returns-in-Ok-clause-ran g c =
    let (attached, ready) = c.in-Ok.ensures.prepared in
    let object = c.args.object in
    let t = c.args.topology in
    inr (read_more g.I.Inputs.observable c.args.id _ _ _ _
    (λ s did.
    let reach = subst (λ (a : List Attached). IsReach (objects_in object a) t c.args.m ready.members) (sym did.0) ready.reach in
    let reports = subst (λ (r : Report). Reports g.O.Sink r c.args.out.now c.run-exit.new.out c.run-exit.result) (report_is g.I.Inputs.observable c.args.id _ _ (setup object attached t) c.args.m (ran s) c.in-Ok.prepared ready) did.1 in
    (ready.members, reach, subst (λ (a : List Attached). Reports g.O.Sink (isolate_report (setup object a t) c.args.m ready.members (ran s)) c.args.out.now c.run-exit.new.out c.run-exit.result) (sym did.0) reports))
    (c.run-exit.ensures.ran _ ready.front))

pub returns-in-Ok-clause-fault : goal.returns-in-Ok-clause-fault
returns-in-Ok-clause-fault g c = let (attached, ready) = c.in-Ok.ensures.prepared in c.run-exit.ensures.fault _ ready.front

pub returns-in-Ok-clause-reads : goal.returns-in-Ok-clause-reads
returns-in-Ok-clause-reads g c = let (attached, ready) = c.in-Ok.ensures.prepared in c.run-exit.ensures.reads _ ready.front

pub run-exit-requires : goal.run-exit-requires
run-exit-requires g c = let (attached, ready) = c.in-Ok.ensures.prepared in record { front = (_, ready.front) }
