use Rattle.std.proofs.lemmas.Result.{err_from_is_err_and}
use Rattle.pm_object.proofs.Loop.{records_go_on, records_fail, records_end}
use Rattle.pm_object.proofs.records.read_records.Goals as goal

pub returns-in_err-read : goal.returns-in_err-read
returns-in_err-read g c =
    let p = err_from_is_err_and c.from_residual.result c.from_residual.ensures.1 in
    let failed = rw c.as_slice.ensures at c.in_err-read.ensures in
    rw (p.1, p.2) (records_fail g.T.Record.one c.in_err-read.field-0.0 c.args.count c.loop.counter c.loop.list c.loop.words _ c.loop-test.true c.loop.invariant failed)

pub loop-preserved : goal.loop-preserved
loop-preserved g c =
    let read = rw c.as_slice.ensures at c.in_ok-read.ensures in
    rw c.in_ok-push.ensures.ok (records_go_on g.T.Record.one c.args.count c.loop.counter c.loop.list c.loop.words c.read.new.words c.in_ok-read.field-0 _ c.loop-test.true c.loop.invariant read)

pub returns : goal.returns
returns g c = records_end g.T.Record.one c.args.count c.loop.counter c.loop.list c.loop.words _ c.loop-test.false c.loop.invariant
