use Rattle.std.proofs.Common.{List, ap, inl, inr, refl, subst, sym, ◌∙◌}
use Rattle.pm_board.specs.Standing.{standing}
use Rattle.pm_object.specs.declared.attached.Attached.{Attached}
use Rattle.pm_reader.specs.Front.{ran}
use Rattle.pm_reader.proofs.ShownLemmas.{read_more}
use Rattle.pm_run.specs.Run.{Setup, setup}
use Rattle.pm_script.specs.Script.{Script}
use Rattle.pm_trace.proofs.ReadsLemmas.{reads_starved}
use Rattle.pm_trace.proofs.ScriptsLemmas.{memory_exit}
use Rattle.pm_replay.specs.Within.{RanScript}
use Rattle.pm_replay.proofs.run.run_begun.Goals as goal

-- memory ran out
pub returns-in-Err-clause-ran : goal.returns-in-Err-clause-ran
returns-in-Err-clause-ran g c = inl (c.refuse.ensures, refl, refl)

pub returns-in-Err-clause-fault : goal.returns-in-Err-clause-fault
returns-in-Err-clause-fault g c = λ is. absurd (memory_exit g.O.Sink c.args.out.now c.refuse.new.out c.refuse.result c.refuse.ensures is)

pub returns-in-Err-clause-reads : goal.returns-in-Err-clause-reads
returns-in-Err-clause-reads g c = reads_starved g.O.Sink c.args.out.now c.refuse.new.out c.refuse.result c.args.id (g.I.Inputs.state c.args.inputs.now) (g.I.Inputs.state c.load.new.inputs) c.refuse.ensures c.load.ensures.reads

-- the script was run, with what it attaches
pub returns-in-Ok-clause-ran : goal.returns-in-Ok-clause-ran
returns-in-Ok-clause-ran g c =
    let board = standing g.H.Responder g.T.Handler c.args.board.now.modules.now c.args.board.now.tasks in
    let left = standing g.H.Responder g.T.Handler c.args.board.now.modules.now c.run-exit.new.board.tasks in
    let R : Script → Setup → Type 0 = λ s cs. RanScript g.O.Sink g.D.Device cs (ran s) c.args.out.now c.run-exit.new.out c.args.dev.now c.run-exit.new.dev board left c.run-exit.result in
    inr (read_more g.I.Inputs.observable c.args.id _ _ _ _
    (λ s did. subst (λ (cs : Setup). R s cs) (c.in-Ok.ensures.setup ∙ ap (λ (attached : List Attached). setup c.args.object attached c.args.topology) (sym did.0)) did.1)
    (c.run-exit.ensures.ran _ c.in-Ok.ensures.front))

pub returns-in-Ok-clause-fault : goal.returns-in-Ok-clause-fault
returns-in-Ok-clause-fault g c = c.run-exit.ensures.fault _ c.in-Ok.ensures.front

pub returns-in-Ok-clause-reads : goal.returns-in-Ok-clause-reads
returns-in-Ok-clause-reads g c = c.run-exit.ensures.reads _ c.in-Ok.ensures.front

pub run-exit-requires-clause-front : goal.run-exit-requires-clause-front
run-exit-requires-clause-front g c = (_, c.in-Ok.ensures.front)
