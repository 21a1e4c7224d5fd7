use Rattle.std.proofs.Common.{arith, inl, rules, Result, Ok, Err}
use Rattle.std.specs.Prelude.{OnErr}
use Rattle.std.proofs.lemmas.List.{take_rest}
use Rattle.pm_io.proofs.SinkLemmas.{Wrote-next, BreaksIn-first, BreaksIn-stalled}
use Rattle.pm_io.proofs.writing.write_all.Goals as goal

pub loop-written-preserved : goal.loop-written-preserved
loop-written-preserved g c = (
  omega (arith, c.in_ok-count.ensures.bound),
  Wrote-next g.K.Sink.observable c.args.bytes.now _ c.loop-written.written c.in_ok-count.count _ _ _ (take_rest c.args.bytes.now c.loop-written.written) c.loop-written.invariant.1
      (record { faults = c.in_ok-count.ensures.calm; stalls = c.in_ok-count.ensures.stalls.taken (search rules); appended = c.in_ok-count.ensures.appended }),
)

-- what holds in any case holds of an error
on_err : {T E : Type 0} (P : Type 0) (result : Result T E) → P → OnErr result P
on_err P (Ok value) holds = tt
on_err P (Err error) holds = holds

pub returns-in_err-count-clause-short : goal.returns-in_err-count-clause-short
returns-in_err-count-clause-short g c =
    on_err _ c.from_residual.result (BreaksIn-first g.K.Sink c.args.bytes.now c.loop-written.written c.args.sink.now c.loop-written.sink c.write.new.self c.loop-written-test.true c.loop-written.invariant.1 c.in_err-count.ensures.appended (inl c.in_err-count.ensures.cause.failed))

pub returns-in-0-clause-short : goal.returns-in-0-clause-short
returns-in-0-clause-short g c =
    BreaksIn-stalled g.K.Sink c.args.bytes.now _ c.loop-written.written c.in_ok-count.count c.args.sink.now c.loop-written.sink c.write.new.self (take_rest c.args.bytes.now c.loop-written.written) c.loop-written-test.true c.loop-written.invariant.1 c.in-0.is c.in_ok-count.ensures.appended (c.in_ok-count.ensures.stalls.stalled c.in-0.is)
