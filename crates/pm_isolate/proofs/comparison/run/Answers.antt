use Rattle.std.proofs.Common.{List, [], ◌∷◌, ℕ, subst}
use Rattle.pm_io.specs.Sink.{Wrote}
use Rattle.pm_io.specs.Writing.{BreaksIn}
use Rattle.pm_reader.specs.Front.{ran}
use Rattle.pm_reader.proofs.AheadLemmas.{Idle}
use Rattle.pm_reader.proofs.ShownLemmas.{front_read, read_more}
use Rattle.pm_reader.proofs.StandsLemmas.{front_calls}
use Rattle.pm_isolate.specs.Within.{rest_report}
use Rattle.pm_isolate.proofs.ReportLemmas.{Reports-broken, Reports-first}
use Rattle.pm_isolate.proofs.comparison.run.Goals as goal

pub returns-in-Ok-clause-ran : goal.returns-in-Ok-clause-ran
returns-in-Ok-clause-ran g c = λ ahead front.
    let P : List ℕ → Type 0 = λ piece. Wrote g.O.Sink.observable piece (g.O.Sink.state c.args.out.now) (g.O.Sink.state c.write_all.new.sink) in
    read_more g.I.Inputs.observable c.args.id _ _ _ _
    (λ s did. (did.0, Reports-first g.O.Sink c.args.prepared.now.reach.items (rest_report c.args.m (ran s) c.args.prepared.now.worlds) c.args.out.now c.write_all.new.sink c.run_rest.new.out c.run_rest.result (subst P c.as_slice.ensures.value c.in-Ok.ensures.written) did.1))
    (c.run_rest.ensures.ran ahead front)

pub returns-in-Err-clause-ran : goal.returns-in-Err-clause-ran
returns-in-Err-clause-ran g c = λ ahead front.
    let P : List ℕ → Type 0 = λ piece. BreaksIn g.O.Sink 0 (piece ∷ []) c.args.out.now c.write_all.new.sink in
    read_more g.I.Inputs.observable c.args.id _ _ _ _
    (λ s attached. (attached, Reports-broken g.O.Sink c.args.prepared.now.reach.items (rest_report c.args.m (ran s) c.args.prepared.now.worlds) c.args.out.now c.write_all.new.sink (subst P c.as_slice.ensures.value c.in-Err.ensures.short)))
    (front_read g.I.Inputs.observable c.args.id ahead (g.I.Inputs.state c.args.inputs.now) c.in-Err.field-0 c.args.prepared.now.front front)

pub returns-in-Err-clause-reads : goal.returns-in-Err-clause-reads
returns-in-Err-clause-reads g c = λ ahead front. front_calls Idle g.I.Inputs.observable c.args.id ahead tt c.args.prepared.now.front (g.I.Inputs.state c.args.inputs.now) front
